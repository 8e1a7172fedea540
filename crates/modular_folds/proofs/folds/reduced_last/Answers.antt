use Rattle.modular_folds.proofs.FoldBounds.{once_below, once_above}
use Rattle.modular_folds.proofs.WordTests.{at_least_by_false_test}
use Rattle.modular_folds.proofs.folds.reduced_last.Goals as goal

pub returns-then-is_below : goal.returns-then-is_below
returns-then-is_below g c =
    let less = c.is_below.ensures.below.0 c.if-is_below.true in
    record { value = once_below _ _ less; below = less }

pub returns-else-is_below : goal.returns-else-is_below
returns-else-is_below g c =
    let more = at_least_by_false_test c.is_below.ensures.below c.if-is_below.false in
    let once = once_above _ _ _ more c.requires c.minus.ensures in
    record { value = once.0; below = once.1 }
