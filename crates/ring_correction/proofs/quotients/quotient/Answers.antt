use Rattle.num_modular.specs.Callers.{◌∙◌, sym}
use Rattle.ring_correction.proofs.NearPairs.{quotient_made}
use Rattle.ring_correction.proofs.quotients.quotient.Goals as goal

pub returns-in-Some-clause-quotient : goal.returns-in-Some-clause-quotient
returns-in-Some-clause-quotient g c =
    let v = c.evaluate-value.ensures.value in let d = c.evaluate-dividend.ensures.value in
    (c.mul.ensures.checked, quotient_made v c.in-Some.ensures.value d c.mul.ensures.value)

pub returns-then-is_zero-clause-quotient : goal.returns-then-is_zero-clause-quotient
returns-then-is_zero-clause-quotient g c =
    let none = c.is_zero.ensures.0 c.if-is_zero.true in
    (sym c.evaluate-value.ensures.value ∙ none, λ h. c.in-None.ensures.value h.0 (rw none h.1))
