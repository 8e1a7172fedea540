use Rattle.modular_monty.proofs.TwoPartSteps.{parts, below_is_form}
use Rattle.modular_monty.proofs.montgomery.MontgomeryReducer.check.Goals as goal

pub returns : goal.returns
returns g c =
    let r = c.args.self.now.ring in
    let below = rw c.modulus.ensures at c.is_below.ensures.below in
    (λ t. below_is_form r _ (below.0 t), λ is. below.1 (parts r is).below)
