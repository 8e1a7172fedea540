use Rattle.std.proofs.Common.{◌∙◌, sym}
use Rattle.test_callers.proofs.reduced_int.sum_modulo_21.Goals as goal

pub add-requires : goal.add-requires
add-requires c = c.new-a.ensures.modulus ∙ sym c.new-b.ensures.modulus
