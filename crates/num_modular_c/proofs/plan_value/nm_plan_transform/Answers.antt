use Rattle.std.proofs.Common.{arith, refl}
use Rattle.std.proofs.Math.Nat.{div-one}
use Rattle.num_modular_c.proofs.plan_value.nm_plan_transform.Goals as goal

pub ntt_planned-requires-clause-count : goal.ntt_planned-requires-clause-count
ntt_planned-requires-clause-count c = rw div-one at (c.if-not-is_split.ensures.0 refl).blocks.count

pub ntt_planned-requires-clause-within : goal.ntt_planned-requires-clause-within
ntt_planned-requires-clause-within c = omega (arith, (c.if-not-is_split.ensures.0 refl).blocks.within)

pub returns-clause-did : goal.returns-clause-did
returns-clause-did c fits =
    (refl, rw (← c.new.ensures) (record { below = c.ntt_planned.ensures.below; values = c.ntt_planned.ensures.values }))
