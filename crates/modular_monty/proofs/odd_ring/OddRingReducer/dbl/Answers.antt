use Rattle.modular_monty.proofs.MontgomerySteps.{double_made}
use Rattle.modular_monty.proofs.odd_ring.OddRingReducer.dbl.Goals as goal

pub returns : goal.returns
returns g c = double_made (g.met.M.OddModulus.is_odd_ring c.args.self.now.kept) c.requires
    (rw c.modulus.ensures at c.dbl_below.ensures.value)
