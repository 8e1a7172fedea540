use Rattle.std.proofs.Common.{rules}
use Rattle.test_callers.proofs.one_by_one.halves.Goals as goal

pub new-two-requires : goal.new-two-requires
new-two-requires c = search rules
