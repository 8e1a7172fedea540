use Rattle.num_modular.specs.Callers.{◌+◌, ◌*◌, All, IsForm, entry, DoneBelow}
use Rattle.num_modular.specs.Congruence.{Congruent}
use Rattle.ring_correction.proofs.key_equation.eliminate.Given as goal

-- the coefficients so far are replaced
abbrev pub invariant-coefficients : goal.invariant-coefficients
invariant-coefficients g l =
    let ring = g.R.Reducer in let m = ring.modulus l.fn.r in let number = g.T.RingWord.number in
    let old = entry number ring.value m l.fn.coefficients in
    All (λ f. IsForm ring.form ring.value m (number f)) l.coefficients
    × DoneBelow (λ k v. Congruent m (v + ring.value m (number l.fn.b) * entry number ring.value m l.fn.pivots k)
    (ring.value m (number l.fn.a) * old k)) l.i old (entry number ring.value m l.coefficients)
