use Rattle.std.proofs.Common.{◌∙◌, arith, sym}
use Rattle.modular_folds.proofs.FoldSteps.{power_fits, two_bits}
use Rattle.modular_folds.proofs.FoldBounds.{low_only, fourfold_factor_within_power}
use Rattle.modular_folds.proofs.folds.folds_in_line.Goals as goal

pub plus-mask-requires : goal.plus-mask-requires
plus-mask-requires g c =
    omega (arith, power_fits c.requires.folding, c.one.ensures, c.minus.ensures, c.requires.folding.whole)

pub overflow_sub-p : goal.overflow_sub-p
overflow_sub-p g c = two_bits c.requires.folding

pub returns-else-is_below-clause-small : goal.returns-else-is_below-clause-small
returns-else-is_below-clause-small g c zero =
    let less = low_only _ _ (sym c.shift_right-else-is_below.ensures.value ∙ c.is_zero_word.ensures.zero.0 zero) in
    fourfold_factor_within_power _ _ (two_bits c.requires.folding) less
