-- The last pass of a join by a table that begins with 1, each entry times a number.
use Rattle.std.proofs.Common.{◌≡◌, ℕ, ◌+◌, ◌*◌, ◌/◌, ◌%◌, ◌^◌, ◌<◌, ◌≤◌, List, map, length}
use Rattle.std.proofs.Common.{refl, sym, ◌∙◌, ap, arith}
use Rattle.std.proofs.Math.Nat.{zero-mul}
use Rattle.std.proofs.Math.ListN.{length-map}
use Rattle.std.proofs.lemmas.List.{get_or_past}
use Rattle.std.specs.Int.{IsPowerOfTwo}
use Rattle.modular_word.specs.Congruence.{Congruent}
use Rattle.modular_word.specs.Sums.{sum_below}
use Rattle.modular_word.proofs.Congruence.{mod_of_eq, mod_trans, mod_refl, mod_mul}
use Rattle.modular_word.proofs.Sums.{sum_below-same, sum_below-mul}
use Rattle.modular_plan_passes.specs.Plans.{numbers, constant, AreTwiddles, AreRemainders}
use Rattle.modular_plan_passes.specs.Steps.{FourAt}
use Rattle.modular_plan_passes.proofs.Fours.{first_stage}
use Rattle.modular_plan_passes.specs.Joins.{IsFourJoin}
use Rattle.modular_plan_passes.proofs.Joins.{level_lowest, level_top}
use Rattle.modular_plan_passes.proofs.TreeLevels.{can_join_two}
use Rattle.modular_plan_passes.proofs.TwoJoins.{level_joined_two, lowest_level}

-- after a list
pub numbers_past : {T : Type 0} (number : T → ℕ) (words : List T) (k : ℕ) → length words ≤ k
    → numbers number words k ≡ 0
numbers_past number words k le = get_or_past (map number words) k 0 (rw (length-map words number) le)

-- a scale that is taken out
pub scale_taken_out : (a s n x : ℕ) → s * a ≡ n → a * (s * x) ≡ n * x
scale_taken_out a s n x is = omega (arith, ap (λ v. v * x) is)

-- remainders of the list once
pub remainders_once : {m : ℕ} (g z b count last : ℕ) (x y : ℕ → ℕ) → AreRemainders m g z b count last x y
    → AreRemainders m g z b count last (λ k. 1 * x k) y
remainders_once g z b count last x y are = grind arith

-- .. and times a number
pub remainders_scaled : {m : ℕ} (g z b count last s : ℕ) (x y : ℕ → ℕ)
    → AreRemainders m g z b count last x (λ i. y i % m)
    → AreRemainders m g z b count last (λ k. x k * s) (λ i. (y i * s) % m)
remainders_scaled {m} g z b count last s x y are = record {
  each = λ j i lj li.
      let c = constant g z (b * count + j) in
      let f = λ (k : ℕ). x (k * last + i) * c ^ k in
      let one : Congruent m (y (j * last + i)) (sum_below count f) = record { same = are.each j i lj li } in
      let all = sum_below-same count (λ k. (x (k * last + i) * s) * c ^ k) (λ k. s * f k) (λ k l. omega arith)
      ∙ sum_below-mul count s f in
      (mod_mul one (mod_refl s)).same ∙ ap (λ v. v % m) (omega (arith, all));
}

-- the entries of the table
pub two_entries : (b count entries : ℕ) → b ≡ 0 → count ≡ 4 → (b + 1) * (count / 2) ≤ entries → 2 ≤ entries
two_entries b count entries no_b four room = omega arith

-- the list that the last pass makes
pub last_joined : {m : ℕ} (g z b last count length entries s : ℕ) (w x y after : ℕ → ℕ) → 1 ≤ last → b ≡ 0 → count ≡ 4
    → IsPowerOfTwo count → count * last ≡ length → (b + 1) * (count / 2) ≤ entries → AreTwiddles m g z entries w
    → w 0 ≡ 1
    → AreRemainders m g z b count last x (λ i. y i % m)
    → ((i : ℕ) → i < last → FourAt (IsFourJoin m 1 1 (w 1)) 0 last i (λ k. y k * s) after)
    → ((k : ℕ) → length ≤ k → after k ≡ y k * s)
    → (i : ℕ) → i < length → Congruent m (after i) (count * x i * s)
last_joined {m} g z b last count length entries s w x y after some no_b four power whole room twiddles begins are
    columns
    past i l =
    let fill : 4 * last ≡ length = ap (λ v. v * last) (sym four) ∙ whole in
    let can = can_join_two (lowest_level some power whole) (omega (arith, four)) in
    let no_first : b * (count / 4) ≡ 0 = rw no_b (zero-mul (count / 4)) in
    let level = level_joined_two g z (λ k. x k * s) can room twiddles (level_lowest g z b count last (λ k. x k * s)
    (λ k. y k * s) (remainders_scaled g z b count last s x y are))
    (first_stage (IsFourJoin m) last (w 1) (b * (count / 4)) (count / 4) w (λ k. y k * s) after no_first
    (omega (arith, four)) begins refl (record {
      fours = columns;
      others = λ k h h'. absurd (omega arith);
      before = λ k h. absurd (omega arith);
      after = λ k h. past k (omega (arith, fill, h));
    })) in
    mod_trans (level_top g z (λ k. x k * s) can.next (omega (arith, fill)) (omega (arith, l)) level i l)
    (mod_of_eq (omega arith))
