use Rattle.modular_reduced.proofs.FormLemmas.{answered_by_form}
use Rattle.modular_barrett.specs.ScaledForms.{scaled_canonical}
use Rattle.modular_barrett.proofs.ScaledLemmas.{divisor_is, product_fits_division, product_stands}
use Rattle.modular_barrett.proofs.premul.PreMulInv2by1Reducer.mul.Goals as goal

pub div_rem_2by1-requires : goal.div_rem_2by1-requires
div_rem_2by1-requires g c =
    let product = c.product.ensures in
    product_fits_division _ _ _ _ _ _ _ c.args.self.now.scaling.scaled c.residue-value.ensures.form.below
    product.other_fits product.value

pub returns : goal.returns
returns g c =
    let is = c.args.self.now.scaling in
    answered_by_form (scaled_canonical is)
    (product_stands _ _ _ _ _ _ _ _ _ is.positive (divisor_is is) c.residue-value.ensures.form c.requires.right
    c.product.ensures.value c.div_rem_2by1.ensures)
