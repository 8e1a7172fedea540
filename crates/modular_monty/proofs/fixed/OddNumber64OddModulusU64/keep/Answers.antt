use Rattle.std.proofs.Common.{◌^◌, lit≤, refl}
use Rattle.modular_monty.proofs.KnownModuli.{odd_modulus}
use Rattle.modular_monty.proofs.fixed.OddNumber64OddModulusU64.keep.Goals as goal

pub invariant_of-result : goal.invariant_of-result
invariant_of-result g c = record { ring = odd_modulus 64 (2 ^ 64) g.row.P refl (lit≤ tt) c.requires.0 g.P.fits.fits }
