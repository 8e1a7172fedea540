use Rattle.modular_plan_passes.proofs.PairSteps.{pair_by_one, split_of_congruent_values, reduced_by}
use Rattle.modular_plan_passes.proofs.split_steps.pair_by_one.Goals as goal

pub returns-clause-pair : goal.returns-clause-pair
returns-clause-pair g c =
    let n = g.T.RingWord.number in
    let step = c.sum_and_difference in
    split_of_congruent_values 1 (n c.args.x) (n c.args.y) (n c.reduced.result) (n c.reduced-2.result) (n step.result.0)
    (n step.result.1)
    (reduced_by 2 (n c.args.x) _ _ c.reduced.ensures.value c.twice-twice.ensures)
    (reduced_by 2 (n c.args.y) _ _ c.reduced-2.ensures.value c.twice-twice.ensures)
    (pair_by_one 2 _ _ _ _ _ c.twice-twice.ensures step.ensures.sum step.ensures.difference)
