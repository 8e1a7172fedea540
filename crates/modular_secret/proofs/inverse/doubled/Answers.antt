use Rattle.modular_secret.proofs.Masks.{doubled_with_borrow}
use Rattle.modular_secret.proofs.inverse.doubled.Goals as goal

pub returns-clause-value : goal.returns-clause-value
returns-clause-value g c below =
    let taken = c.borrowing_sub-difference.ensures in
    doubled_with_borrow _ _ _ _ _ _ _ _ below c.masked.ensures.fits c.wrapping_sub.ensures.value
    c.wrapping_sub.ensures.fits taken.below taken.all taken.exact
    taken.none c.masked.ensures.all c.masked.ensures.none c.wrapping_add.ensures.value
