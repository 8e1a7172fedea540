use Rattle.std.proofs.Common.{◌+◌, ◌<◌, All}
use Rattle.modular_plan_passes.specs.Plans.{numbers}
use Rattle.modular_plan_passes.specs.Steps.{IsPairSplit, StageDone}
use Rattle.modular_plan_passes.proofs.split_stages.split_stage.Given as goal

-- the first p blocks are done
abbrev pub invariant-each_block : goal.invariant-each_block
invariant-each_block g l =
    let number = g.T.RingWord.number in
    record {
      entries : All (λ x. number x < g.M.Bounded.limit l.m) l.xs;
      done : StageDone (λ p. IsPairSplit (g.M.SplitSteps.modulus l.m) (numbers g.F.PlanEntry.value l.table
          (l.first + p)))
          l.half l.p (numbers number l.fn.xs) (numbers number l.xs);
    }
