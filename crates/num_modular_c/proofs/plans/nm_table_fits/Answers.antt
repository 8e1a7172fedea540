use Rattle.std.proofs.Common.{arith}
use Rattle.num_modular_c.proofs.plans.nm_table_fits.Goals as goal

pub is_table-requires-clause-below : goal.is_table-requires-clause-below
is_table-requires-clause-below c =
    omega (arith, (c.plan_code-code.ensures.fits.0 c.if-code-ne-NM_OK.false).0.0, c.new.ensures)
