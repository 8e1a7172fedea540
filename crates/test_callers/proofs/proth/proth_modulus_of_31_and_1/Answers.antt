use Rattle.std.proofs.Common.{rules}
use Rattle.test_callers.proofs.proth.proth_modulus_of_31_and_1.Goals as goal

pub fixed_modulus-requires : goal.fixed_modulus-requires
fixed_modulus-requires c = search rules
