use Rattle.std.proofs.Common.{rules}
use Rattle.test_callers.proofs.fixed.fixed_modulus_11.Goals as goal

pub fixed_modulus-requires : goal.fixed_modulus-requires
fixed_modulus-requires c = search rules
