use Rattle.std.proofs.Common.{◌≡◌, ℕ, ◌+◌, ◌-◌, ◌*◌, ◌/◌, ◌%◌, ◌^◌, ◌<◌, ◌≤◌, length, sym, ◌∙◌, ap, arith, subst}
use Rattle.std.proofs.Math.ListN.{set, length-set}
use Rattle.std.proofs.Math.Nat.{mod-lt}
use Rattle.std.proofs.lemmas.Nat.{pow_pos}
use Rattle.std.specs.Int.{trailing_zeros, w64, IsPowerOfTwo}
use Rattle.modular_transform.proofs.PowersOfTwo.{power_by_zeros}
use Rattle.modular_transform.specs.Orders.{bits_reversed}
use Rattle.modular_plan_passes.specs.Plans.{numbers}
use Rattle.modular_plan_passes.proofs.Entries.{number_at}
use Rattle.modular_plan_passes.proofs.Tables.{half_is_power_of_two}
use Rattle.modular_plan_passes.proofs.Doublings.{IsMade, made_now, made_before, same_factor, holds_below_next}
use Rattle.modular_plan_passes.proofs.Doublings.{holds_from_previous}
use Rattle.modular_plan_passes.proofs.Doublings.{first_entry_is_zeroth_power, half_place, one_within, two_within}
use Rattle.modular_plan_passes.proofs.Doublings.{twice_place, root_itself}
use Rattle.modular_plan_passes.proofs.Doublings.{square_next, product_of_two, twiddles_of_made}
use Rattle.modular_plan_passes.proofs.Shorter.{first_entries}
use Rattle.modular_plan_passes.proofs.table.fill_table.Goals as goal
use borrow.Author.Rules.{scaled_Fits}

-- the table has an entry
first_within : {n : ℕ} → IsPowerOfTwo (2 * n) → 0 < n
first_within power =
    let half = half_is_power_of_two power in
    omega (arith, pow_pos half.0, half.1)

-- a residue is below the modulus
table_residue_below_modulus : (a : ℕ) {r m : ℕ} → r ≡ a % m → 1 ≤ m → r < m
table_residue_below_modulus a {r} {m} is some = let below = mod-lt a (let k : 0 < m = omega (arith, some) in k) in
    omega (arith, is, below)

pub squares-init : goal.squares-init
squares-init g c =
    let table = c.args.table.now in
    let x = c.entry.result in
    let len = length-set table 0 x in
    let power = half_is_power_of_two c.requires.suits.power_of_two in
    let whole = power_by_zeros (length (set table 0 x)) (subst IsPowerOfTwo (sym len) power) (omega (arith, len)) in
    record {
      whole = whole;
      place = whole ∙ ap (λ v. 2 ^ v) (omega arith);
      power = root_itself _ _ c.requires.below;
      first = made_now table x (first_within c.requires.suits.power_of_two)
          (same_factor c.factor.ensures.factor c.entry.ensures.value c.entry.ensures.quotient)
          (first_entry_is_zeroth_power _ _ _ _ _ _ c.one.ensures c.residue.ensures (c.entry.ensures.value
          ∙ c.factor.ensures.value));
      single = λ t l h. absurd (omega arith);
    }

pub offset_bounds-table-place : goal.offset_bounds-table-place
offset_bounds-table-place g c =
    let inside = (half_place _ c.squares._bit c.squares.place c.squares-test.true c.squares.invariant.place).within in
    let len = length-set c.args.table.now 0 c.entry.result in
    scaled_Fits _ _ _ (omega (arith, c.squares.invariant.whole, inside, len)) c.well_formed.1.1.0.1

pub bounds-table-place : goal.bounds-table-place
bounds-table-place g c =
    let within = (half_place _ c.squares._bit c.squares.place c.squares-test.true c.squares.invariant.place).within in
    omega (arith, c.squares.invariant.whole, within)

pub squares-preserved : goal.squares-preserved
squares-preserved g c =
    let m = g.T.RingWord.number c.args.m.now.modulus in
    let root = g.T.RingWord.number c.args.g in
    let before = c.squares.invariant in
    let bits = trailing_zeros w64 (length (set c.args.table.now 0 c.entry.result)) in
    let i = c.squares._bit in
    let p : ℕ = c.squares.place / 2 in
    let made = IsMade g.F.PlanEntry.value g.F.PlanEntry.quotient g.T.PathWord.base m root bits
    (set c.squares.table p c.entry-in-squares.result) in
    let half = half_place bits i c.squares.place c.squares-test.true before.place in
    let now : made p = made_now c.squares.table _ (omega (arith, before.whole, half.within))
    (same_factor c.factor-factor.ensures.factor c.entry-in-squares.ensures.value c.entry-in-squares.ensures.quotient)
    (c.entry-in-squares.ensures.value ∙ c.factor-factor.ensures.value ∙ before.power
    ∙ ap (λ v. root ^ v % m) (sym half.reversed)) in
    record {
      whole = length-set c.squares.table p _ ∙ before.whole;
      place = half.next;
      power = square_next m root i _ _ _ before.power c.factor-factor.ensures.value c.product-power.ensures;
      first = made_before _ now before.first;
      single = λ k l h. holds_from_previous (λ k. k < bits → made (2 ^ k)) (bits - (i + 1))
          (λ k l h. made_before _ now (before.single k (omega arith) h)) (λ h. subst made half.next now) k l h;
    }

pub offset_bounds-table-count : goal.offset_bounds-table-count
offset_bounds-table-count g c =
    let before = c.doublings.invariant in
    let within = one_within _ c.doublings._bit _ _ c.doublings-test.true before.count before.whole in
    scaled_Fits _ _ _ (omega (arith, within, length-set c.args.table.now 0 c.entry.result)) c.well_formed.1.1.0.1

pub bounds-table-count : goal.bounds-table-count
bounds-table-count g c =
    one_within _ c.doublings._bit _ _ c.doublings-test.true c.doublings.invariant.count c.doublings.invariant.whole

pub others-init : goal.others-init
others-init g c =
    let before = c.doublings.invariant in
    let made = IsMade g.F.PlanEntry.value g.F.PlanEntry.quotient g.T.PathWord.base _ _ _ c.doublings.table in
    record {
      room = two_within _ c.doublings._bit c.doublings.count _ c.doublings-test.true before.count before.whole;
      single = before.single;
      first = holds_below_next made c.doublings.count before.first
          (subst made (sym before.count) (before.single c.doublings._bit c.doublings-test.true));
    }

pub others-preserved : goal.others-preserved
others-preserved g c =
    let m = g.T.RingWord.number c.args.m.now.modulus in
    let root = g.T.RingWord.number c.args.g in
    let outer = c.doublings.invariant in
    let before = c.others.invariant in
    let bits = trailing_zeros w64 (length (set c.args.table.now 0 c.entry.result)) in
    let t = c.doublings._bit in
    let count = c.doublings.count in
    let other = c.others.other in
    let test = c.others-test.true in
    let made = IsMade g.F.PlanEntry.value g.F.PlanEntry.quotient g.T.PathWord.base m root bits
    (set c.others.table (count + other) c.entry-in-others.result) in
    let first = c.factor-in-others.ensures.value
    ∙ number_at g.F.PlanEntry.value c.others.table other c.index-table-other.result (omega (arith, before.room, test))
    ∙ (before.first other (omega (arith, test))).power in
    let second = c.factor-factor-in-doublings.ensures.value
    ∙ number_at g.F.PlanEntry.value c.doublings.table count c.index-table-count.result
    (one_within _ t _ _ c.doublings-test.true outer.count outer.whole)
    ∙ ap (λ v. numbers g.F.PlanEntry.value c.doublings.table v) outer.count
    ∙ (outer.single t c.doublings-test.true).power in
    let power = product_of_two m root bits t other _ _ _ c.doublings-test.true (omega (arith, test, outer.count)) first
    second c.product-power-in-others.ensures in
    let now : made (count + other) = made_now c.others.table _ (omega (arith, before.room, test))
    (same_factor c.factor-in-others-2.ensures.factor c.entry-in-others.ensures.value c.entry-in-others.ensures.quotient)
    (c.entry-in-others.ensures.value ∙ c.factor-in-others-2.ensures.value ∙ power
    ∙ ap (λ v. root ^ bits_reversed bits (v + other) % m) (sym outer.count)) in
    record {
      room = omega (arith, before.room, length-set c.others.table (count + other) c.entry-in-others.result);
      single = λ k h. made_before _ now (before.single k h);
      first = λ k l. holds_below_next made (count + other) (λ k l. made_before _ now (before.first k l)) now k
          (omega (arith, l));
    }

pub doublings-preserved : goal.doublings-preserved
doublings-preserved g c = record {
  whole = omega (arith, c.doublings.invariant.whole);
  count = twice_place c.doublings._bit c.doublings.count c.doublings.invariant.count;
  single = c.others.invariant.single;
  first = λ k l. c.others.invariant.first k (omega arith);
}

pub returns : goal.returns
returns g c =
    let last = c.doublings.invariant in
    let all : c.doublings._bit ≡ trailing_zeros w64 (length (set c.args.table.now 0 c.entry.result)) = omega arith in
    let e = ap (λ v. 2 ^ v) all in
    let len = length-set c.args.table.now 0 c.entry.result in
    let whole : length c.args.table.now ≡ length c.doublings.table = omega (arith, len) in
    let twiddles = λ (z : ℕ) (is : 2 ^ z ≡ 2 * length c.args.table.now).
    twiddles_of_made _ _ _ _ _ _ _ z c.doublings.table c.requires.suits is (whole ∙ last.whole)
    (λ k l. last.first k (omega (arith, last.whole, last.count, e, whole))) in
    record {
      factors = λ k d l. (last.first k (omega (arith, last.whole, last.count, e))).factor d;
      twiddles = twiddles;
      first = λ y d is. first_entries y d (twiddles (y + d) is);
    }

pub factor-requires-in-others-2 : goal.factor-requires-in-others-2
factor-requires-in-others-2 g c =
    let n = g.T.RingWord.number in
    table_residue_below_modulus (n c.factor-in-others.result.value * n c.factor-factor-in-doublings.result.value)
    c.product-power-in-others.ensures c.args.m.now.some
