use Rattle.std.proofs.Common.{◌≤◌, arith}
use Rattle.modular_folds.proofs.FoldSteps.{mask_plus_one_is_power, power_fits, fold_keeps}
use Rattle.modular_folds.proofs.FoldBounds.{doubled_fits, up_to}
use Rattle.modular_folds.proofs.folds.reduced_by_more.Goals as goal

pub plus-mask-requires : goal.plus-mask-requires
plus-mask-requires g c =
    omega (arith, power_fits c.requires.folding, c.one.ensures, c.minus.ensures, c.requires.folding.whole)

pub plus-twice-requires : goal.plus-twice-requires
plus-twice-requires g c =
    let free = doubled_fits g.V.RingWord.width c.args.p c.requires.inside in
    omega (arith, free, c.requires.folding.whole, c.requires.folding.some)

pub reduced_last-requires : goal.reduced_last-requires
reduced_last-requires g c =
    let n = g.V.RingWord.number in
    let mask = mask_plus_one_is_power _ _ c.one.ensures c.minus.ensures c.plus-mask.ensures c.requires.folding.whole in
    let below = c.is_below.ensures.below.0 c.if-is_below.true in
    let bound = up_to _ (n c.args.c) _ _ _ mask c.requires.bound in
    omega (arith, below, bound, c.plus-twice.ensures, c.fold_once-first.ensures, c.most_after-most_of_one.ensures)

pub reduced_last-requires-then-is_below-2 : goal.reduced_last-requires-then-is_below-2
reduced_last-requires-then-is_below-2 g c =
    let n = g.V.RingWord.number in
    let mask = mask_plus_one_is_power _ _ c.one.ensures c.minus.ensures c.plus-mask.ensures c.requires.folding.whole in
    let below = c.is_below-else-is_below.ensures.below.0 c.if-is_below-2.true in
    let once = up_to _ (n c.args.c) _ _ _ mask c.requires.bound in
    let bound : n c.fold_once-first.result ≤ n c.most_after-most_of_one.result =
    omega (arith, once, c.fold_once-first.ensures, c.most_after-most_of_one.ensures) in
    let twice = up_to _ (n c.args.c) _ _ _ mask bound in
    omega (arith, below, twice, c.plus-twice.ensures, c.fold_once.ensures, c.most_after.ensures)

pub fold_on-requires-clause-fits : goal.fold_on-requires-clause-fits
fold_on-requires-clause-fits g c =
    let n = g.V.RingWord.number in
    let mask = mask_plus_one_is_power _ _ c.one.ensures c.minus.ensures c.plus-mask.ensures c.requires.folding.whole in
    let once = up_to _ (n c.args.c) _ _ _ mask c.requires.bound in
    omega (arith, once, c.fold_once-first.ensures, c.most_after-most_of_one.ensures, c.is_below.ensures.fits)

pub returns-then-is_below : goal.returns-then-is_below
returns-then-is_below g c = search (arith, fold_keeps)

pub returns-then-is_below-2 : goal.returns-then-is_below-2
returns-then-is_below-2 g c = search (arith, fold_keeps)

pub returns-else-is_below-2 : goal.returns-else-is_below-2
returns-else-is_below-2 g c = search (arith, fold_keeps)
