use Rattle.std.proofs.Common.{arith}
use Rattle.test_operations.proofs.tests.remainders.callers.plain_ring_of_21.Goals as goal

pub new-requires : goal.new-requires
new-requires c = omega arith
