use Rattle.modular_monty.proofs.MontgomerySteps.{negative_made}
use Rattle.modular_monty.proofs.odd_ring.OddRingReducer.neg.Goals as goal

pub returns : goal.returns
returns g c = negative_made (g.met.M.OddModulus.is_odd_ring c.args.self.now.kept) c.requires
    (rw c.modulus.ensures at c.neg_below.ensures.value)
