use Rattle.std.proofs.Common.{◌∙◌, arith, sym}
use Rattle.modular_folds.proofs.FoldBounds.{low_only, fourth_of}
use Rattle.modular_folds.proofs.far.has_few_folds.Goals as goal

pub returns : goal.returns
returns g c few =
    fourth_of _ _ _ c.requires.some (omega arith)
    (low_only _ _ (sym c.shift_right.ensures.value ∙ c.is_zero_word.ensures.zero.0 few))
