use Rattle.std.proofs.Common.{◌^◌, lit≤, refl}
use Rattle.modular_monty.proofs.KnownModuli.{odd_modulus}
use Rattle.modular_monty.proofs.fixed.OddNumber32OddModulusU32.keep.Goals as goal

pub invariant_of-result : goal.invariant_of-result
invariant_of-result g c = record { ring = odd_modulus 32 (2 ^ 32) g.row.P refl (lit≤ tt) c.requires.0 g.P.fits.fits }
