use Rattle.std.proofs.Common.{rules}
use Rattle.test_callers.proofs.solinas.ring_of_31.Goals as goal

pub new-requires : goal.new-requires
new-requires c = search rules
