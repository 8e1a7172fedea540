use Rattle.modular_monty.proofs.MontgomerySteps.{sum_made}
use Rattle.modular_monty.proofs.odd_ring.OddRingReducer.add.Goals as goal

pub returns : goal.returns
returns g c = sum_made (g.met.M.OddModulus.is_odd_ring c.args.self.now.kept) c.requires.left c.requires.right
    c.sum.ensures
