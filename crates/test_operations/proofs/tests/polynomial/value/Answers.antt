use Rattle.std.proofs.Common.{◌∙◌}
use Rattle.test_operations.proofs.tests.polynomial.value.Goals as goal

pub returns : goal.returns
returns g c = c.residue.ensures ∙ c.horner.ensures.residue
