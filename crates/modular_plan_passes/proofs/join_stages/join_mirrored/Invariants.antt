use Rattle.std.proofs.Common.{◌≡◌, ℕ, ◌+◌, ◌*◌, ◌<◌, ◌≤◌, length}
use Rattle.modular_plan_passes.specs.Factors.{AllFactors}
use Rattle.modular_plan_passes.specs.Plans.{numbers, AreTwiddles}
use Rattle.modular_plan_passes.specs.Steps.{StageOfFours}
use Rattle.modular_plan_passes.specs.Joins.{IsFourJoin}
use Rattle.modular_plan_passes.proofs.Runs.{IsFrontOf}
use Rattle.modular_plan_passes.proofs.join_stages.join_mirrored.Given as goal

-- the first p blocks are done, and their entries below the bound; the parts of the table end before their factors
abbrev pub invariant-fours : goal.invariant-fours
invariant-fours g l =
    let number = g.T.RingWord.number in
    let m = g.M.JoinSteps.modulus l.m in
    let value = g.F.PlanEntry.value in
    let quotient = g.F.PlanEntry.quotient in
    let w = numbers value l.table in
    record {
      kept : (k : ℕ) → l.p * 4 ≤ k → numbers number l.xs k ≡ numbers number l.fn.xs k;
      below : (k : ℕ) → k < l.p * 4 → numbers number l.xs k < g.M.JoinSteps.bound l.m;
      done : (g z : ℕ) → AreTwiddles m g z (length l.table) w
          → StageOfFours (λ p. IsFourJoin m (w (l.first + p)) (w (2 * (l.first + p))) (w (2 * (l.first + p) + 1))) 1
          l.p (numbers number l.fn.xs) (numbers number l.xs);
      own : IsFrontOf value l.table l.own;
      own_length : length l.own + l.p ≡ l.last + 1;
      own_factors : AllFactors g.T.PathWord.base m value quotient l.own;
      halves : IsFrontOf value l.table l.halves;
      halves_length : length l.halves + 2 * l.p ≡ 2 * l.last + 2;
      halves_factors : AllFactors g.T.PathWord.base m value quotient l.halves;
    }
