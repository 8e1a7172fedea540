use Rattle.modular_monty.proofs.MontgomerySteps.{transform_made}
use Rattle.modular_monty.proofs.odd_ring.OddRingReducer.transform.Goals as goal

pub returns : goal.returns
returns g c = transform_made (g.met.M.OddModulus.is_odd_ring c.args.self.now.kept) _
    (rw c.square_of_base.ensures at c.product.ensures.value) c.redc.ensures
