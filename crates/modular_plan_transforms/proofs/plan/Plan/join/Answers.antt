use Rattle.std.proofs.Common.{◌/◌, length, ◌∙◌}
use Rattle.modular_plan_transforms.proofs.Backward.{inverse_unscales}
use Rattle.modular_plan_transforms.proofs.PlanFields.{twiddles_of}
use Rattle.modular_plan_transforms.proofs.plan.Plan.join.Goals as goal

pub returns-clause-joined : goal.returns-clause-joined
returns-clause-joined g c x are i below =
    let plan = c.args.self.now in
    c.join_scaled.ensures.joined _ plan.bits x (twiddles_of plan.half plan.half_turn plan.powers) are i below
    ∙ inverse_unscales _ (length c.args.xs.now / c.args.last) _ (x i) c.part-part.ensures.inverse
