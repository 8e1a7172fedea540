use Rattle.std.proofs.Common.{◌<◌}
use Rattle.modular_secret.proofs.Masks.{negative_with_borrow}
use Rattle.modular_secret.proofs.inverse.negative.Goals as goal

pub returns : goal.returns
returns g c =
    let taken = c.borrowing_sub-difference.ensures in
    let is = λ (below : g.T.RingWord.number c.args.v < g.T.RingWord.number c.args.m).
    negative_with_borrow _ _ _ _ _ _ _ _ below c.masked.ensures.fits c.zero.ensures taken.below taken.all taken.exact
    taken.none c.masked.ensures.all c.masked.ensures.none c.wrapping_add.ensures.value in
    record { congruent = λ below. record { same = (is below).1 }; below = λ below. (is below).0 }
