use Rattle.modular_folds.proofs.FoldBounds.{once_above}
use Rattle.modular_folds.proofs.WordTests.{at_least_by_false_test}
use Rattle.modular_folds.proofs.products.reduced_last.Goals as goal

pub returns-else-is_below : goal.returns-else-is_below
returns-else-is_below g c =
    let more = at_least_by_false_test c.is_below.ensures.below c.if-is_below.false in
    (once_above (g.T.RingWord.number c.args.m) (g.T.RingWord.number c.args.x) _ more c.requires c.minus.ensures.value).0
