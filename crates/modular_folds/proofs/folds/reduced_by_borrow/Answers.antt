use Rattle.modular_folds.proofs.LastSubtraction.{masked_residue}
use Rattle.modular_folds.proofs.folds.reduced_by_borrow.Goals as goal

pub returns : goal.returns
returns c =
    let words = c.split-rest.ensures in
    masked_residue _ _ _ _ c.requires c.ranges.m.fits words.value words.low_fits words.high_fits
