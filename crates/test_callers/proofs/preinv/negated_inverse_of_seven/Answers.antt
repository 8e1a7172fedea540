use Rattle.std.proofs.Common.{rules}
use Rattle.test_callers.proofs.preinv.negated_inverse_of_seven.Goals as goal

pub neginv-requires : goal.neginv-requires
neginv-requires c = search rules
