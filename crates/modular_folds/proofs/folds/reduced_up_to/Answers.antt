use Rattle.std.proofs.Common.{arith}
use Rattle.modular_folds.proofs.FoldSteps.{mask_plus_one_is_power, power_fits, two_folds_keep}
use Rattle.modular_folds.proofs.FoldBounds.{doubled_fits, two_up_to}
use Rattle.modular_folds.proofs.folds.reduced_up_to.Goals as goal

pub plus-mask-requires : goal.plus-mask-requires
plus-mask-requires g c =
    omega (arith, power_fits c.requires.folding, c.one.ensures, c.minus.ensures, c.requires.folding.whole)

pub plus-twice-requires : goal.plus-twice-requires
plus-twice-requires g c =
    let free = doubled_fits g.V.RingWord.width c.args.p c.requires.inside in
    omega (arith, free, c.requires.folding.whole, c.requires.folding.some)

pub reduced_last-requires : goal.reduced_last-requires
reduced_last-requires g c =
    let mask = mask_plus_one_is_power _ _ c.one.ensures c.minus.ensures c.plus-mask.ensures c.requires.folding.whole in
    let below = c.is_below-2.ensures.below.0 c.if-is_below-2.true in
    let bound = two_up_to _ _ _ _ _ mask c.requires.bound c.fold_once-first.ensures c.fold_once-second.ensures
    c.most_after.ensures c.most_after-most_of_two.ensures in
    omega (arith, below, bound, c.plus-twice.ensures)

pub reduced_by_more-requires-clause-bound : goal.reduced_by_more-requires-clause-bound
reduced_by_more-requires-clause-bound g c = search (arith, mask_plus_one_is_power, two_up_to)

pub returns-then-is_below-2 : goal.returns-then-is_below-2
returns-then-is_below-2 g c = search (arith, two_folds_keep)

pub returns-else-is_below-2 : goal.returns-else-is_below-2
returns-else-is_below-2 g c = search (arith, two_folds_keep)
