use Rattle.std.proofs.Common.{rules}
use Rattle.test_callers.proofs.normalized.of_two_bytes.Goals as goal

pub div_rem_2by1-requires : goal.div_rem_2by1-requires
div_rem_2by1-requires c = search rules
