use Rattle.std.proofs.Common.{◌+◌, ◌*◌, ◌<◌, All}
use Rattle.modular_plan_passes.specs.Plans.{numbers}
use Rattle.modular_plan_passes.specs.Steps.{IsFourSplit, StageOfFours}
use Rattle.modular_plan_passes.proofs.split_stages.split_two_stages.Given as goal

-- the first p blocks are done
abbrev pub invariant-four_quarters : goal.invariant-four_quarters
invariant-four_quarters g l =
    let number = g.T.RingWord.number in
    let m = g.M.SplitSteps.modulus l.m in
    let w = numbers g.F.PlanEntry.value l.table in
    record {
      entries : All (λ x. number x < g.M.Bounded.limit l.m) l.xs;
      done : StageOfFours (λ p. IsFourSplit m (w (l.first + p)) (w (2 * (l.first + p))) (w (2 * (l.first + p) + 1))) l.q
          l.p (numbers number l.fn.xs) (numbers number l.xs);
    }
