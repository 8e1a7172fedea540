use Rattle.std.proofs.Common.{◌%◌, ap, sym, ◌∙◌}
use Rattle.num_modular.specs.NumberLaws.{sum_below-zero, sum_residue_of_next_term, mod_of_eq, mod_trans, residue_of}
use Rattle.check_digits.proofs.Code.sum.Goals as goal

pub places-init : goal.places-init
places-init c = ap (λ n. n % c.args.self.now.modulus) (sym (sum_below-zero _))

pub places-preserved : goal.places-preserved
places-preserved c =
    c.addm-sum.ensures
    ∙ sum_residue_of_next_term _ _ _ _ _ c.places.invariant (mod_trans (mod_of_eq c.mulm-product.ensures)
    (residue_of _))
