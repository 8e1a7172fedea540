use Rattle.std.proofs.Common.{rules}
use Rattle.test_callers.proofs.montgomery.ring_of_20.Goals as goal

pub new-requires : goal.new-requires
new-requires c = search rules
