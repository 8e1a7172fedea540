use Rattle.std.proofs.Common.{arith, ◌∙◌}
use Rattle.modular_plan_transforms.proofs.OwnedTables.{IsKept, kept_by_plan}
use Rattle.modular_plan_transforms.proofs.owned.OwnedPlan.with_table.Goals as goal

pub returns-in_err-plan : goal.returns-in_err-plan
returns-in_err-plan g c =
    rw c.from_residual.ensures (rw c.as_slice.ensures at c.in_err-plan.ensures)

pub invariant_of-result : goal.invariant_of-result
invariant_of-result g c =
    let n = g.T.RingWord.number in
    let base = g.T.PathWord.base in
    let value = g.F.PlanEntry.value in
    let quotient = g.F.PlanEntry.quotient in
    let plan = c.in_ok-plan.plan in
    let entries = g.S.AsSlice.items c.args.table in
    let here = kept_by_plan base (n plan.modulus.modulus) (n plan.root) plan.bits value quotient plan.table.now
    (omega arith)
    plan.odd plan.root_below plan.half plan.half_turn plan.factors plan.powers in
    let lent = rw (c.in_ok-plan.ensures.3 ∙ c.as_slice.ensures) at here in
    let is : IsKept base (n c.modulus-modulus.result.modulus) (n c.root-root.result) value quotient entries =
    rw c.modulus-modulus.ensures (rw c.root-root.ensures lent) in
    search arith
