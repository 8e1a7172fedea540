use Rattle.std.proofs.Common.{◌∙◌, arith}
use Rattle.modular_barrett.proofs.ScaledLemmas.{scaling_of}
use Rattle.modular_prim.proofs.Scaled.{scaled_to_top}
use Rattle.modular_barrett.proofs.premul.PreMulInv2by1.new.Goals as goal

pub shift_left-requires-clause-fits : goal.shift_left-requires-clause-fits
shift_left-requires-clause-fits g c =
    let zeros = c.leading_zeros-shift.ensures in
    (scaled_to_top _ _ _ _ g.met.T.PathWord.base_is c.requires zeros.fits zeros.value).fits

pub new-requires : goal.new-requires
new-requires g c =
    let zeros = c.leading_zeros-shift.ensures in
    let top = (scaled_to_top _ _ _ _ g.met.T.PathWord.base_is c.requires zeros.fits zeros.value).top in
    omega (arith, c.shift_left.ensures)

pub invariant_of-result : goal.invariant_of-result
invariant_of-result g c =
    let zeros = c.leading_zeros-shift.ensures in
    let divisor = c.new.ensures ∙ c.shift_left.ensures in
    record { scaling = scaling_of _ _ _ _ _ g.met.T.PathWord.base_is c.requires zeros.fits zeros.value divisor }
