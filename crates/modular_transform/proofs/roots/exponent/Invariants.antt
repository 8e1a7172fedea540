use Rattle.std.proofs.Common.{◌≡◌, ◌-◌, ◌/◌, ◌^◌}
use Rattle.modular_transform.proofs.roots.exponent.Given as goal

abbrev pub invariant-halvings : goal.invariant-halvings
invariant-halvings g l = g.T.RingWord.number l.rest ≡ (g.R.Reducer.modulus l.r - 1) / 2 ^ l._done
