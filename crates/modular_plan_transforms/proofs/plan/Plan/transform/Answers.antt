use Rattle.std.proofs.Common.{length, ◌∙◌}
use Rattle.modular_plan_transforms.proofs.PlanFields.{twiddles_of, transform_by_root_itself}
use Rattle.modular_plan_transforms.proofs.plan.Plan.transform.Goals as goal

pub returns-clause-values : goal.returns-clause-values
returns-clause-values g c j below =
    let plan = c.args.self.now in
    c.ntt_planned.ensures.values _ plan.bits j (twiddles_of plan.half plan.half_turn plan.powers) below
    ∙ transform_by_root_itself _ (g.T.RingWord.number plan.root) plan.bits (length c.args.xs.now) _ j c.requires.whole
