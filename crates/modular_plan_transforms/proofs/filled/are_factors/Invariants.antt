use Rattle.std.proofs.Common.{ℕ, ◌<◌, get_or}
use Rattle.modular_plan_passes.specs.Factors.{IsFactor}
use Rattle.modular_plan_transforms.proofs.filled.are_factors.Given as goal

-- the entries before this one are factors
abbrev pub invariant-entries : goal.invariant-entries
invariant-entries g l = (k : ℕ) → k < l.place → (d : _) → IsFactor g.T.PathWord.base (g.T.RingWord.number l.m)
    (g.F.PlanEntry.value (get_or l.table k d)) (g.F.PlanEntry.quotient (get_or l.table k d))
