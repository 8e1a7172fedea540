use Rattle.std.proofs.Common.{rules}
use Rattle.test_callers.proofs.symbols.legendre_of_three.Goals as goal

pub legendre-requires : goal.legendre-requires
legendre-requires c = search rules
