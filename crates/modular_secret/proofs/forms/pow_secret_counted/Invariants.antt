use Rattle.std.proofs.Common.{◌≡◌, ◌-◌, ◌*◌, ◌%◌, ◌^◌, ◌<◌}
use Rattle.modular_reduced.proofs.PowerSoFar.{PowerSoFar}
use Rattle.modular_secret.proofs.forms.pow_secret_counted.Given as goal

abbrev pub invariant-digits : goal.invariant-digits
invariant-digits g l =
    let m = g.R.Reducer.modulus l.reducer in
    let number = g.T.RingWord.number in
    let value = g.R.Reducer.value in
    record {
      so_far : PowerSoFar g.R.Reducer.form value m (number l.product) (number l.power) (number l.rest)
          (value m (number l.fn.base) ^ number l.exp % m);
      below : number l.rest < 2 ^ (l.fn.bits - l._done);
      count : l.count ≡ 2 * l._done;
    }
