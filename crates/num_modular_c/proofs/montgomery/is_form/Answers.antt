use Rattle.modular_monty.proofs.TwoPartSteps.{parts, below_is_form}
use Rattle.num_modular_c.proofs.montgomery.is_form.Goals as goal

pub returns-clause-below : goal.returns-clause-below
returns-clause-below c =
    let r = c.args.ring.now.ring in
    (λ t. (parts r (c.check.ensures.0 t)).below, λ l. c.check.ensures.1 (below_is_form r _ l))
