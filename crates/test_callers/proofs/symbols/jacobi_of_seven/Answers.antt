use Rattle.std.proofs.Common.{rules}
use Rattle.test_callers.proofs.symbols.jacobi_of_seven.Goals as goal

pub jacobi-requires : goal.jacobi-requires
jacobi-requires c = search rules
