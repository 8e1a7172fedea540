use Rattle.modular_monty.proofs.TwoPartSteps.{high_checked}
use Rattle.modular_monty.proofs.montgomery.Montgomery.high.Goals as goal

pub returns-clause-form : goal.returns-clause-form
returns-clause-form g c = high_checked c.args.self.now.ring c.requires c.shift_right.ensures.value
