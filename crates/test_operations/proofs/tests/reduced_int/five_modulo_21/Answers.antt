use Rattle.test_callers.proofs.Units.{inverse_of_five_is_seventeen}
use Rattle.test_operations.proofs.tests.reduced_int.five_modulo_21.Goals as goal

pub returns-clause-unit : goal.returns-clause-unit
returns-clause-unit g c = (17, rw (c.new.ensures.modulus, c.new.ensures.residue) inverse_of_five_is_seventeen)
