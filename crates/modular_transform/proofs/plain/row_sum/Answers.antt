use Rattle.modular_word.proofs.Congruence.{mod_of_eq, mod_trans, residue_of}
use Rattle.modular_transform.proofs.PlainSums.{empty_sum_residue_is_zero, sum_residue_of_next_term}
use Rattle.modular_transform.proofs.plain.row_sum.Goals as goal

pub terms-init : goal.terms-init
terms-init c = empty_sum_residue_is_zero _ _

pub terms-preserved : goal.terms-preserved
terms-preserved c = sum_residue_of_next_term _ c.terms.j _ _ _ c.terms.invariant
    (mod_trans (residue_of _) (mod_of_eq c.term.ensures))
