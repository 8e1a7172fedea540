use Rattle.std.proofs.Common.{arith}
use Rattle.modular_prim.proofs.ResidueSteps.{residue_of_negative_difference, negative_difference_wraps}
use Rattle.modular_prim.proofs.below.sub_below.Goals as goal

pub returns-then-is_below-clause-value : goal.returns-then-is_below-clause-value
returns-then-is_below-clause-value g c =
    let less = c.is_below-2.ensures.below.0 c.if-is_below.true in
    let is = negative_difference_wraps _ _ _ _ c.is_below-2.ensures.other_fits
    c.wrapping_sub-less.ensures.fits less c.wrapping_sub-less.ensures.value in
    grind (arith, residue_of_negative_difference)
