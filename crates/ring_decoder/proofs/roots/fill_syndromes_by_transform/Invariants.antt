use Rattle.num_modular.specs.Callers.{◌-◌, HoldBelow, entry, length}
use Rattle.ring_decoder.proofs.roots.fill_syndromes_by_transform.Given as goal

-- the syndromes so far are the last coefficients
abbrev pub invariant-syndromes : goal.invariant-syndromes
invariant-syndromes g l =
    let ring = g.R.Reducer in let m = ring.modulus l.fn.r in let number = g.T.RingWord.number in
    HoldBelow number ring.form ring.value m l.syndromes
    (λ h. entry number ring.value m l.coefficients (length l.coefficients - 1 - h)) l.h
