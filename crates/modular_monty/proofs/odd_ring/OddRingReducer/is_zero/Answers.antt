use Rattle.modular_monty.proofs.MontgomerySteps.{zero_iff}
use Rattle.modular_monty.proofs.odd_ring.OddRingReducer.is_zero.Goals as goal

pub returns : goal.returns
returns g c =
    let is = zero_iff (g.met.M.OddModulus.is_odd_ring c.args.self.now.kept) c.requires in
    (λ t. is.0 (c.is_zero_word.ensures.zero.0 t), λ e. c.is_zero_word.ensures.zero.1 (is.1 e))
