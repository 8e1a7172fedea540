use Rattle.std.proofs.Common.{ap, ◌*◌, arith}
use Rattle.modular_folds.proofs.FoldSteps.{masked_number_is_residue, fold_at_most}
use Rattle.modular_folds.proofs.folds.fold_once.Goals as goal

pub multiply_add-requires : goal.multiply_add-requires
multiply_add-requires g c =
    let n = g.V.RingWord.number in
    let most = fold_at_most _ _ (n c.args.v) c.requires.less in
    let low = masked_number_is_residue _ _ (n c.args.v) c.requires.mask in
    omega (
      arith,
      most,
      low,
      c.shift_right.ensures.fits,
      c.masked.ensures,
      ap (λ h. h * n c.args.c) c.shift_right.ensures.value,
    )

pub returns : goal.returns
returns g c = search (arith, masked_number_is_residue)
