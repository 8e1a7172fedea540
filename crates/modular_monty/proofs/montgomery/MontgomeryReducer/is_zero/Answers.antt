use Rattle.modular_monty.proofs.TwoPartSteps.{zero_iff}
use Rattle.modular_monty.proofs.montgomery.MontgomeryReducer.is_zero.Goals as goal

pub returns : goal.returns
returns g c =
    let is = zero_iff c.args.self.now.ring c.requires in
    (λ t. is.0 (c.is_zero_word.ensures.zero.0 t), λ e. c.is_zero_word.ensures.zero.1 (is.1 e))
