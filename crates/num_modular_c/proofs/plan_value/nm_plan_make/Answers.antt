use Rattle.std.proofs.Common.{arith, refl}
use Rattle.num_modular_c.proofs.plan_value.nm_plan_make.Goals as goal

pub returns-then-code-eq-NM_OK-clause-did : goal.returns-then-code-eq-NM_OK-clause-did
returns-then-code-eq-NM_OK-clause-did c admitted suits =
    let table = (c.nm_fill_table-code.ensures.did admitted suits).1 in
    (c.if-code-eq-NM_OK.true, record { modulus = refl; root = refl; entries = omega arith; table = table })

pub returns-then-code-eq-NM_OK-clause-no_root : goal.returns-then-code-eq-NM_OK-clause-no_root
returns-then-code-eq-NM_OK-clause-no_root c admitted none =
    absurd (omega (arith, (c.nm_fill_table-code.ensures.no_root admitted none).0, c.if-code-eq-NM_OK.true))

pub returns-then-code-eq-NM_OK-clause-bad_argument : goal.returns-then-code-eq-NM_OK-clause-bad_argument
returns-then-code-eq-NM_OK-clause-bad_argument c none =
    absurd (omega (arith, (c.nm_fill_table-code.ensures.bad_argument none).0, c.if-code-eq-NM_OK.true))

pub returns-else-code-eq-NM_OK-clause-did : goal.returns-else-code-eq-NM_OK-clause-did
returns-else-code-eq-NM_OK-clause-did c admitted suits =
    absurd (c.if-code-eq-NM_OK.false (c.nm_fill_table-code.ensures.did admitted suits).0)
