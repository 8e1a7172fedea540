use Rattle.num_modular.specs.Callers.{◌*◌, ◌%◌, HoldBelow, entry}
use Rattle.ring_decoder.proofs.syndromes.fill_syndromes.Given as goal

-- the terms so far are the symbols times their weights
abbrev pub invariant-points : goal.invariant-points
invariant-points g l =
    let ring = g.R.Reducer in let m = ring.modulus l.fn.r in let number = g.T.RingWord.number in
    HoldBelow number ring.form ring.value m l.terms
    (λ i. (entry number ring.value m l.fn.weights i * entry number ring.value m l.fn.word i) % m) l.i
