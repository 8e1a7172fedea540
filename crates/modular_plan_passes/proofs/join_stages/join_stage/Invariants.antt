use Rattle.std.proofs.Common.{ℕ, ◌+◌, ◌<◌, All, length}
use Rattle.modular_plan_passes.specs.Plans.{numbers, AreTwiddles}
use Rattle.modular_plan_passes.specs.Steps.{StageDone}
use Rattle.modular_plan_passes.specs.Joins.{IsPairJoin}
use Rattle.modular_plan_passes.proofs.join_stages.join_stage.Given as goal

-- the first p blocks are done
abbrev pub invariant-each_block : goal.invariant-each_block
invariant-each_block g l =
    let number = g.T.RingWord.number in
    let m = g.M.JoinSteps.modulus l.m in
    let w = numbers g.F.PlanEntry.value l.table in
    record {
      entries : All (λ x. number x < g.M.JoinSteps.bound l.m) l.xs;
      done : (g z : ℕ) → AreTwiddles m g z (length l.table) w
          → StageDone (λ p. IsPairJoin m (w (l.first + p))) l.half l.p (numbers number l.fn.xs) (numbers number l.xs);
    }
