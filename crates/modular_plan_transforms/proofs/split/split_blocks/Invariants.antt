use Rattle.std.proofs.Common.{◌≡◌, ℕ, ◌*◌, ◌/◌, ◌<◌, All, length}
use Rattle.modular_plan_passes.specs.Plans.{numbers, AreTwiddles}
use Rattle.modular_plan_passes.specs.Steps.{IsLevel}
use Rattle.modular_plan_passes.proofs.TreeLevels.{IsTreeLevel}
use Rattle.modular_plan_transforms.proofs.split.split_blocks.Given as goal

-- the levels so far are done
abbrev pub invariant-stages : goal.invariant-stages
invariant-stages g l =
    let number = g.T.RingWord.number in
    let value = g.F.PlanEntry.value in
    let m = g.M.SplitSteps.modulus l.m in
    record {
      above : ℕ;
      tree : IsTreeLevel l.size l.blocks above l.left l.last (length l.fn.xs / l.last) (length l.fn.xs);
      entries : All (λ x. number x < g.M.Bounded.limit l.m) l.xs;
      first : l.blocks ≡ 1 → All (λ x. number x < 4 * m) l.xs;
      level : (g z : ℕ) → AreTwiddles m g z (length l.table) (numbers value l.table)
          → IsLevel m g z l.b l.blocks l.size (numbers number l.fn.xs) (numbers number l.xs);
    }

abbrev pub decreases-stages : goal.decreases-stages
decreases-stages g l = l.left
