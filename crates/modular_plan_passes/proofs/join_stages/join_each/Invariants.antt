use Rattle.std.proofs.Common.{◌≡◌, ℕ, ◌+◌, ◌*◌, ◌<◌, ◌≤◌, length}
use Rattle.modular_plan_passes.specs.Plans.{numbers, AreTwiddles}
use Rattle.modular_plan_passes.specs.Steps.{StageOfFours}
use Rattle.modular_plan_passes.specs.Joins.{IsFourJoin}
use Rattle.modular_plan_passes.proofs.join_stages.join_each.Given as goal

-- the first p blocks are done, and their entries below the bound
abbrev pub invariant-fours : goal.invariant-fours
invariant-fours g l =
    let number = g.T.RingWord.number in
    let m = g.M.JoinSteps.modulus l.m in
    let w = numbers g.F.PlanEntry.value l.table in
    record {
      kept : (k : ℕ) → l.p * 4 ≤ k → numbers number l.xs k ≡ numbers number l.fn.xs k;
      below : (k : ℕ) → k < l.p * 4 → numbers number l.xs k < g.M.JoinSteps.bound l.m;
      done : (g z : ℕ) → AreTwiddles m g z (length l.table) w
          → StageOfFours (λ p. IsFourJoin m (w (l.first + p)) (w (2 * (l.first + p))) (w (2 * (l.first + p) + 1))) 1
          l.p (numbers number l.fn.xs) (numbers number l.xs);
    }
