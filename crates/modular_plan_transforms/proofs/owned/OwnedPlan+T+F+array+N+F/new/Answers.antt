use Rattle.std.proofs.Common.{◌≡◌, length, arith, sym}
use Rattle.std.specs.Int.{trailing_zeros, w64}
use Rattle.modular_transform.proofs.PowersOfTwo.{power_by_zeros}
use Rattle.modular_plan_passes.proofs.Tables.{half_is_power_of_two}
use Rattle.modular_plan_transforms.proofs.PlanTables.{made_table, powers_of}
use Rattle.modular_plan_transforms.proofs.PlanFields.{turn_of, twice_power_of_two}
use Rattle.modular_plan_transforms.proofs.owned.OwnedPlan+T+F+array+N+F.new.Goals as goal

pub invariant_of-result : goal.invariant_of-result
invariant_of-result g c =
    let fit = c.suits.ensures.0 c.if-not-suits.false in
    let table = c.fill_table.new.table in
    let size : g.row.N ≡ length table = omega arith in
    let power = power_by_zeros (length table) (half_is_power_of_two (rw size at fit.1).power_of_two) (omega arith) in
    let all = twice_power_of_two (trailing_zeros w64 (length table)) (length table) power in
    let holds = made_table c.fill_table.auto.table c.fill_table.ensures.factors c.fill_table.ensures.twiddles in
    record {
      odd = c.is_odd.ensures.odd.0 c.if-not-is_odd.false;
      root_below = fit.0;
      power_of_two = power;
      half_turn = turn_of all (holds.twiddles _ (sym all));
      factors = holds.factors;
      powers = powers_of _ _ _ _ _ g.F.PlanEntry.quotient table power holds;
    }
