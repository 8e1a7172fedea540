use Rattle.num_modular.specs.Callers.{◌≢◌, ◌<◌, ℕ, IsForm, HasInverse, entry}
use Rattle.ring_decoder.proofs.search.find_nonunit.Given as goal

-- the product isn't 0, and has an inverse only where the witness and the values so far have, that aren't 0
abbrev pub invariant-values : goal.invariant-values
invariant-values g l =
    let ring = g.R.Reducer in let m = ring.modulus l.fn.r in let number = g.T.RingWord.number in
    let z = entry number ring.value m l.fn.values in
    IsForm ring.form ring.value m (number l.product) × (ring.value m (number l.product) ≢ 0)
    × (HasInverse m (ring.value m (number l.product)) → HasInverse m (ring.value m (number l.fn.witness))
    × ((i : ℕ) → i < l.i → z i ≢ 0 → HasInverse m (z i)))
