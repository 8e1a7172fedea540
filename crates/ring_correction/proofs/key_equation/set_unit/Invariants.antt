use Rattle.num_modular.specs.Callers.{HoldBelow}
use Rattle.ring_correction.proofs.key_equation.set_unit.Given as goal

-- the coefficients so far are 0
abbrev pub invariant-coefficients : goal.invariant-coefficients
invariant-coefficients g l =
    let ring = g.R.Reducer in let m = ring.modulus l.fn.r in
    HoldBelow g.T.RingWord.number ring.form ring.value m l.coefficients (λ k. 0) l.i
