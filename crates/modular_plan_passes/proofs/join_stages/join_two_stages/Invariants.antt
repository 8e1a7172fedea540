use Rattle.std.proofs.Common.{ℕ, ◌+◌, ◌*◌, ◌<◌, All, length}
use Rattle.modular_plan_passes.specs.Plans.{numbers, AreTwiddles}
use Rattle.modular_plan_passes.specs.Steps.{StageOfFours}
use Rattle.modular_plan_passes.specs.Joins.{IsFourJoin}
use Rattle.modular_plan_passes.proofs.join_stages.join_two_stages.Given as goal

-- the first p blocks are done
abbrev pub invariant-four_quarters : goal.invariant-four_quarters
invariant-four_quarters g l =
    let number = g.T.RingWord.number in
    let m = g.M.JoinSteps.modulus l.m in
    let w = numbers g.F.PlanEntry.value l.table in
    record {
      entries : All (λ x. number x < g.M.JoinSteps.bound l.m) l.xs;
      done : (g z : ℕ) → AreTwiddles m g z (length l.table) w
          → StageOfFours (λ p. IsFourJoin m (w (l.first + p)) (w (2 * (l.first + p))) (w (2 * (l.first + p) + 1))) l.q
          l.p (numbers number l.fn.xs) (numbers number l.xs);
    }
