use Rattle.std.proofs.Common.{rules}
use Rattle.test_callers.proofs.preinv.seventh.Goals as goal

pub div_exact-requires : goal.div_exact-requires
div_exact-requires c = search rules
