use Rattle.std.proofs.Common.{◌≡◌, ℕ, ◌+◌, ◌*◌, ◌^◌, ◌<◌, length, arith, sym}
use Rattle.std.specs.Int.{IsPowerOfTwo, trailing_zeros, w64}
use Rattle.modular_transform.proofs.PowersOfTwo.{power_by_zeros}
use Rattle.modular_plan_passes.proofs.Tables.{half_is_power_of_two}
use Rattle.modular_plan_transforms.proofs.PlanFields.{turn_of, twice_power_of_two}
use Rattle.modular_plan_transforms.proofs.plan.Plan.over.Goals as goal

-- twice the length of a table, by the number of its trailing zeros
twice_length_is_power : (n : ℕ) → n < 18446744073709551616 → IsPowerOfTwo (2 * n)
    → 2 * n ≡ 2 ^ (trailing_zeros w64 n + 1)
twice_length_is_power n few power =
    twice_power_of_two (trailing_zeros w64 n) n (power_by_zeros n (half_is_power_of_two power) (omega (arith, few)))

pub invariant_of-result : goal.invariant_of-result
invariant_of-result g c =
    let n = length c.args.table.now in
    let all = twice_length_is_power n (omega arith) c.requires.suits.power_of_two in
    let made = c.requires.holds.twiddles _ (sym all) in
    record {
      odd = c.requires.odd;
      root_below = c.requires.below;
      half = all;
      half_turn = turn_of all made;
      factors = c.requires.holds.factors;
      powers = made.entry;
    }

pub returns-clause-entries : goal.returns-clause-entries
returns-clause-entries g c =
    sym (twice_length_is_power (length c.args.table.now) (omega arith) c.requires.suits.power_of_two)
