use Rattle.std.proofs.Common.{sym, arith}
use Rattle.check_digits.proofs.States.{state_first, state_more}
use Rattle.check_digits.proofs.VerhoeffDigits.{verhoeff_step, dihedral_small}
use Rattle.check_digits.proofs.verhoeff.product.Goals as goal

pub places-init : goal.places-init
places-init c = record { value = sym (state_first (verhoeff_step c.args.first) 0 _); small = omega arith }

pub places-preserved : goal.places-preserved
places-preserved c = grind (arith, verhoeff_step, state_more, dihedral_small)
