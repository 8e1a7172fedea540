use Rattle.std.proofs.Common.{rules}
use Rattle.test_callers.proofs.mersenne.ring_of_9.Goals as goal

pub new-requires : goal.new-requires
new-requires c = search rules
