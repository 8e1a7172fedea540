use Rattle.ring_codes.proofs.Names.{◌∙◌, mod_add, mod_refl}
use Rattle.ring_codes.proofs.Congruences.{mod_of_residue}
use Rattle.ring_codes.proofs.erasure.newton.newton_step.Goals as goal

pub returns-clause-value : goal.returns-clause-value
returns-clause-value g c = c.add.ensures.value
    ∙ (mod_add (mod_refl _) (mod_of_residue c.mul-product.ensures.value)).same
