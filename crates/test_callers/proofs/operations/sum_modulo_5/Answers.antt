use Rattle.std.proofs.Common.{arith}
use Rattle.test_callers.proofs.operations.sum_modulo_5.Goals as goal

pub addm-requires : goal.addm-requires
addm-requires c = omega arith
