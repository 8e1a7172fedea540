use Rattle.std.proofs.Common.{arith, refl}
use Rattle.modular_prim.proofs.Scaled.{scaled_to_top}
use Rattle.num_modular_c.proofs.dividers.to_the_top.Goals as goal

pub shift_left-requires-clause-fits : goal.shift_left-requires-clause-fits
shift_left-requires-clause-fits c =
    (scaled_to_top 64 18446744073709551616 c.args.d _ refl c.requires c.ranges.d.fits refl).fits

pub returns-clause-top : goal.returns-clause-top
returns-clause-top c =
    let top = (scaled_to_top 64 18446744073709551616 c.args.d _ refl c.requires c.ranges.d.fits refl).top in
    omega (arith, c.shift_left.ensures, top)
