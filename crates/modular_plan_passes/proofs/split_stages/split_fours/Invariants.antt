use Rattle.std.proofs.Common.{ℕ, ◌+◌, ◌*◌, ◌<◌}
use Rattle.modular_plan_passes.specs.Plans.{numbers}
use Rattle.modular_plan_passes.specs.Steps.{IsFourSplit, StageOfFours}
use Rattle.modular_plan_passes.proofs.split_stages.split_fours.Given as goal

-- the first p blocks are done, and are residues
abbrev pub invariant-fours : goal.invariant-fours
invariant-fours g l =
    let number = g.T.RingWord.number in
    let m = g.M.SplitSteps.modulus l.m in
    let w = numbers g.F.PlanEntry.value l.table in
    record {
      below : (k : ℕ) → k < l.p * 4 → numbers number l.xs k < m;
      done : StageOfFours (λ p. IsFourSplit m (w (l.first + p)) (w (2 * (l.first + p))) (w (2 * (l.first + p) + 1))) 1
          l.p (numbers number l.fn.xs) (numbers number l.xs);
    }
