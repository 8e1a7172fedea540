use Rattle.num_modular.specs.Callers.{All, IsForm, entry, DoneBelow}
use Rattle.ring_decoder.specs.LocatorSteps.{IsCombined}
use Rattle.ring_decoder.proofs.locator.combine.Given as goal

-- the coefficients so far are replaced
abbrev pub invariant-low : goal.invariant-low
invariant-low g l =
    let ring = g.R.Reducer in let m = ring.modulus l.fn.r in let number = g.T.RingWord.number in
    let old = entry number ring.value m l.fn.polynomial in
    All (λ f. IsForm ring.form ring.value m (number f)) l.polynomial
    × DoneBelow (λ k v. IsCombined m (ring.value m (number l.fn.a)) (ring.value m (number l.fn.b)) l.fn.q k (old k) v
    (entry number ring.value m l.fn.other)) l.i old (entry number ring.value m l.polynomial)

abbrev pub invariant-high : goal.invariant-high
invariant-high g l =
    let ring = g.R.Reducer in let m = ring.modulus l.fn.r in let number = g.T.RingWord.number in
    let old = entry number ring.value m l.fn.polynomial in
    All (λ f. IsForm ring.form ring.value m (number f)) l.polynomial
    × DoneBelow (λ k v. IsCombined m (ring.value m (number l.fn.a)) (ring.value m (number l.fn.b)) l.fn.q k (old k) v
    (entry number ring.value m l.fn.other)) l.k old (entry number ring.value m l.polynomial)
