use Rattle.modular_plan_passes.proofs.Bounds.{multiple_is_none, reduced_by_multiple}
use Rattle.modular_plan_passes.proofs.JoinedPairs.{joined_pair_reduced}
use Rattle.modular_plan_passes.proofs.join_steps.PlannedModulusJoinSteps.pair.Goals as goal

pub returns-clause-pair : goal.returns-clause-pair
returns-clause-pair g c =
    let bound = g.T.RingWord.number c.twice-twice.result in
    λ w inverse.
    joined_pair_reduced w _ _ _ _ _
    (reduced_by_multiple _ _ bound (multiple_is_none 2 bound c.twice-twice.ensures) c.reduced.ensures.value)
    (c.gather-sum.ensures.pair w inverse)
