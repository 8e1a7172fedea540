use Rattle.std.proofs.Common.{rules}
use Rattle.test_callers.proofs.preinv.prepared_seven.Goals as goal

pub from-requires : goal.from-requires
from-requires c = search rules
