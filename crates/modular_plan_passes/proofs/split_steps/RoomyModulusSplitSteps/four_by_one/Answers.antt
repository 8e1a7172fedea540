use Rattle.std.proofs.Common.{refl}
use Rattle.modular_plan_passes.proofs.PairSteps.{pair_by_one, pair_up_to, reduced_by}
use Rattle.modular_plan_passes.proofs.Fours.{four_of_pairs}
use Rattle.modular_plan_passes.proofs.split_steps.RoomyModulusSplitSteps.four_by_one.Goals as goal

pub returns-clause-four : goal.returns-clause-four
returns-clause-four g c =
    let low = c.sum_and_difference-a in
    let four = c.fourfold-fourfold.ensures in
    let eight = c.eightfold-eightfold.ensures in
    four_of_pairs 1 1 (g.T.RingWord.number c.args.v.now.value) refl refl refl refl
    (pair_by_one 4 _ _ _ _ _ four c.sum_and_difference-e.ensures.sum c.sum_and_difference-e.ensures.difference)
    (pair_by_one 4 _ _ _ _ _ four c.sum_and_difference-f.ensures.sum c.sum_and_difference-f.ensures.difference)
    (pair_up_to 1 _ _ _ _ _ _ (reduced_by 8 (g.T.RingWord.number low.result.0) _ _ c.reduced.ensures.value eight)
    (reduced_by 8 (g.T.RingWord.number low.result.1) _ _ c.reduced-2.ensures.value eight)
    (pair_by_one 8 _ _ _ _ _ eight low.ensures.sum low.ensures.difference))
    c.spread-c.ensures.pair
