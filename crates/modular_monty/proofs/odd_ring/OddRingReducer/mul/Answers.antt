use Rattle.modular_monty.proofs.MontgomerySteps.{product_made}
use Rattle.modular_monty.proofs.odd_ring.OddRingReducer.mul.Goals as goal

pub returns : goal.returns
returns g c = product_made (g.met.M.OddModulus.is_odd_ring c.args.self.now.kept) c.requires.left c.requires.right
    c.product.ensures.value c.redc.ensures
