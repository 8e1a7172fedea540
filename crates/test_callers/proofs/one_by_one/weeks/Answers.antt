use Rattle.std.proofs.Common.{rules}
use Rattle.test_callers.proofs.one_by_one.weeks.Goals as goal

pub div_rem-requires : goal.div_rem-requires
div_rem-requires c = search rules
