use Rattle.std.proofs.Common.{rules}
use Rattle.test_callers.proofs.fixed.fixed_ring_of_21.Goals as goal

pub new-requires : goal.new-requires
new-requires c = search rules
