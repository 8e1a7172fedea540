use Rattle.std.proofs.Common.{rules}
use Rattle.test_callers.proofs.one_by_one.whole_weeks.Goals as goal

pub div_exact-requires : goal.div_exact-requires
div_exact-requires c = search rules
