use Rattle.std.proofs.Common.{◌≡◌, ◌+◌, ◌%◌, ◌^◌}
use Rattle.modular_reduced.proofs.PowerCounts.{steps}
use Rattle.modular_reduced.proofs.PowerSoFar.{PowerSoFar}
use Rattle.modular_reduced.proofs.power.binary_power.Given as goal

abbrev pub invariant-digits : goal.invariant-digits
invariant-digits g l =
    let m = g.R.Reducer.modulus l.reducer in
    let number = g.T.RingWord.number in
    let value = g.R.Reducer.value in
    record {
      so_far : PowerSoFar g.R.Reducer.form value m (number l.product) (number l.power) (number l.rest)
          (value m (number l.fn.base) ^ number l.fn.exp % m);
      counted : l.count + steps (number l.rest) ≡ steps (number l.fn.exp);
    }

abbrev pub decreases-digits : goal.decreases-digits
decreases-digits g l = g.T.RingWord.number l.rest
