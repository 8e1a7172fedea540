use Rattle.modular_monty.proofs.MontgomerySteps.{below_is_form, form_below}
use Rattle.modular_monty.proofs.odd_ring.OddRingReducer.check.Goals as goal

pub returns : goal.returns
returns g c =
    let r = g.met.M.OddModulus.is_odd_ring c.args.self.now.kept in
    let below = rw c.modulus.ensures at c.is_below.ensures.below in
    (λ t. below_is_form r _ (below.0 t), λ is. below.1 (form_below r is))
