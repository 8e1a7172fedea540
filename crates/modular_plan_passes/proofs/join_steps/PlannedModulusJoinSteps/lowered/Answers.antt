use Rattle.modular_plan_passes.proofs.Bounds.{multiple_is_none, reduced_by_multiple}
use Rattle.modular_plan_passes.proofs.join_steps.PlannedModulusJoinSteps.lowered.Goals as goal

pub returns-clause-congruent : goal.returns-clause-congruent
returns-clause-congruent g c =
    let bound = g.T.RingWord.number c.twice.result in
    reduced_by_multiple _ _ bound (multiple_is_none 2 bound c.twice.ensures) c.reduced.ensures.value
