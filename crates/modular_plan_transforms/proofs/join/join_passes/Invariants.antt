use Rattle.std.proofs.Common.{ℕ, ◌-◌, ◌*◌, ◌/◌, ◌%◌, ◌^◌, ◌<◌, All, length}
use Rattle.modular_plan_passes.specs.Plans.{numbers, AreTwiddles, AreRemainders}
use Rattle.modular_plan_passes.specs.Steps.{IsLevel}
use Rattle.modular_plan_passes.proofs.TreeLevels.{IsTreeLevel}
use Rattle.modular_plan_transforms.proofs.join.join_passes.Given as goal

-- the entries are the remainders of 2 ^ below times the list, in 2 ^ above blocks
abbrev pub invariant-passes : goal.invariant-passes
invariant-passes g l =
    let number = g.T.RingWord.number in
    let value = g.F.PlanEntry.value in
    let m = g.M.JoinSteps.modulus l.m in
    record {
      above : ℕ;
      below : ℕ;
      tree : IsTreeLevel l.size l.blocks above below l.last (length l.fn.xs / l.last) (length l.fn.xs);
      some : 0 < l.size;
      entries : All (λ x. number x < g.M.JoinSteps.bound l.m) l.xs;
      level : (g z : ℕ) (x : ℕ → ℕ) → AreTwiddles m g z (length l.table) (numbers value l.table)
          → AreRemainders m g z l.b (length l.fn.xs / l.last) l.last x (λ i. numbers number l.fn.xs i % m)
          → IsLevel m g z l.b l.blocks l.size (λ k. 2 ^ below * x k) (numbers number l.xs);
    }

abbrev pub decreases-passes : goal.decreases-passes
decreases-passes g l = l.blocks - 4
