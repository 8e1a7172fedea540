use Rattle.std.proofs.Common.{rules}
use Rattle.test_callers.proofs.mersenne.modulus_of_4_and_7.Goals as goal

pub fixed_modulus-requires : goal.fixed_modulus-requires
fixed_modulus-requires c = search rules
