use Rattle.std.proofs.Common.{rules}
use Rattle.test_callers.proofs.solinas.modulus_of_5_2_and_3.Goals as goal

pub fixed_modulus-requires : goal.fixed_modulus-requires
fixed_modulus-requires c = search rules
