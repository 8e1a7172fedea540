use Rattle.std.proofs.Common.{rules}
use Rattle.test_callers.proofs.proth.proth_ring_of_13.Goals as goal

pub new-requires : goal.new-requires
new-requires c = search rules
