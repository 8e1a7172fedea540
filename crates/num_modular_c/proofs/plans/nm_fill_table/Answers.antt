use Rattle.std.proofs.Common.{arith}
use Rattle.num_modular_c.proofs.plans.nm_fill_table.Goals as goal

pub fill_table-requires-clause-below : goal.fill_table-requires-clause-below
fill_table-requires-clause-below c =
    omega (arith, (c.plan_code-code.ensures.fits.0 c.if-code-eq-NM_OK.true).0.0, c.new.ensures)

pub returns-then-code-eq-NM_OK-clause-did : goal.returns-then-code-eq-NM_OK-clause-did
returns-then-code-eq-NM_OK-clause-did c admitted suits = (
  c.if-code-eq-NM_OK.true,
  record {
    factors = rw c.new.ensures at c.fill_table.ensures.factors;
    twiddles = rw c.fill_table.auto.table (rw c.new.ensures at c.fill_table.ensures.twiddles);
  },
)

pub returns-else-code-eq-NM_OK-clause-did : goal.returns-else-code-eq-NM_OK-clause-did
returns-else-code-eq-NM_OK-clause-did c admitted suits =
    absurd (c.if-code-eq-NM_OK.false (c.plan_code-code.ensures.fits.1 (admitted, suits)))
