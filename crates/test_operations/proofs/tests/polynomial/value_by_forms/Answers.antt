use Rattle.std.proofs.Common.{◌%◌, ◌∙◌, ap, sym}
use Rattle.test_operations.proofs.PolynomialLemmas.{value_at_7}
use Rattle.test_operations.proofs.tests.polynomial.value_by_forms.Goals as goal

pub returns : goal.returns
returns c =
    c.value.ensures
    ∙ value_at_7 _ _ _ _ _ c.new-x.ensures.modulus
    (c.new-a.ensures.residue ∙ ap (λ m. 2 % m) (sym c.new-x.ensures.modulus))
    (c.new-b.ensures.residue ∙ ap (λ m. 3 % m) (sym c.new-x.ensures.modulus))
    (c.new-c.ensures.residue ∙ ap (λ m. 5 % m) (sym c.new-x.ensures.modulus)) c.new-x.ensures.residue
