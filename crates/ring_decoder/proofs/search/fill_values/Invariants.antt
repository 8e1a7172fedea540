use Rattle.num_modular.specs.Callers.{◌%◌, HoldBelow}
use Rattle.ring_decoder.proofs.search.fill_values.Given as goal

-- ones so far
abbrev pub invariant-ones : goal.invariant-ones
invariant-ones g l =
    let ring = g.R.Reducer in let m = ring.modulus l.fn.r in
    HoldBelow g.T.RingWord.number ring.form ring.value m l.values (λ i. 1 % m) l.i
