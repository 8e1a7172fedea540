use Rattle.std.proofs.Common.{refl}
use Rattle.num_modular_c.proofs.plan_value.nm_plan_split.Goals as goal

pub returns-clause-did : goal.returns-clause-did
returns-clause-did c fits =
    (refl, rw (← c.new.ensures) (record { below = c.split.ensures.below; remainders = c.split.ensures.remainders }))
