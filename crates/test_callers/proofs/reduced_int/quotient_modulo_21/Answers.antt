use Rattle.std.proofs.Common.{◌∙◌, sym}
use Rattle.test_callers.proofs.Units.{inverse_of_five_is_seventeen}
use Rattle.test_callers.proofs.reduced_int.quotient_modulo_21.Goals as goal

pub div-requires : goal.div-requires
div-requires c = (
  c.new-ten.ensures.modulus ∙ sym c.new-divisor.ensures.modulus,
  (17, rw (c.new-divisor.ensures.modulus, c.new-divisor.ensures.residue) inverse_of_five_is_seventeen),
)
