use Rattle.num_modular.specs.NumberLaws.{empty_sum_residue_is_zero, sum_residue_of_next_term, mod_of_eq}
use Rattle.check_digits.proofs.luhn.sum.Goals as goal

pub places-init : goal.places-init
places-init c = empty_sum_residue_is_zero _ _

pub places-preserved : goal.places-preserved
places-preserved c = sum_residue_of_next_term _ _ _ _ _ c.places.invariant (mod_of_eq c.value.ensures.value)
