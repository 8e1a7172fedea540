use Rattle.modular_prim.proofs.PowerSteps.{product_below_scaled_modulus}
use Rattle.modular_monty.proofs.MontgomerySteps.{difference_product_made, form_below}
use Rattle.modular_monty.proofs.odd_ring.OddRingReducer.mul_difference.Goals as goal

pub redc-requires : goal.redc-requires
redc-requires g c = product_below_scaled_modulus _ _ c.product.ensures.value c.product.ensures.fits
    (form_below (g.met.M.OddModulus.is_odd_ring c.args.self.now.kept) c.requires.factor)

pub returns : goal.returns
returns g c =
    difference_product_made (g.met.M.OddModulus.is_odd_ring c.args.self.now.kept) c.requires.left c.requires.right
    (rw c.modulus.ensures at c.branchless_sub_below-difference.ensures.value) c.requires.factor
    c.product.ensures.value c.redc.ensures
