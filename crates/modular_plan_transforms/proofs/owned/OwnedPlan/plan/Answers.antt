use Rattle.std.proofs.Common.{arith, sym}
use Rattle.modular_plan_transforms.proofs.OwnedTables.{IsKept, lent_by_kept}
use Rattle.modular_plan_transforms.proofs.owned.OwnedPlan.plan.Goals as goal

pub over-requires : goal.over-requires
over-requires g c =
    let n = g.T.RingWord.number in
    let owned = c.args.self.now in
    let m = n owned.modulus.modulus in
    let entries = g.S.AsSlice.items owned.table in
    let kept : IsKept g.T.PathWord.base m (n owned.root) g.F.PlanEntry.value g.F.PlanEntry.quotient entries =
    search arith in
    let is = rw (sym c.as_slice.ensures) at (lent_by_kept kept) in
    record {
      odd = owned.odd;
      below = owned.root_below;
      suits = is.suits;
      holds = is.holds;
    }
