-- Signs of numbers by their digits: where a number lies in the range, and the integer that it represents.
use Rattle.std.proofs.Common.{◌≡◌, ℕ, ◌+◌, ◌*◌, ◌<◌, ◌≤◌, ◌↔◌, Bool, true, IsTrue, arith, ap, ◌∙◌, ℤ, pos, ◌-ℤ◌, ◌<ℤ◌}
use Rattle.std.proofs.Common.{if◌then◌else◌, List, length, get_or, slice_index}
use Rattle.std.proofs.Math.Nat.{mul-le-mul_left}
use Rattle.num_modular.specs.NumberLaws.{sum_below-zero, sum_below-more}
use Rattle.num_modular.specs.ProductLaws.{product-zero}
use Rattle.num_modular.specs.Systems.{range_below, range_of}
use Rattle.residue_numbers.specs.MixedRadix.{AreDigits, mixed_below, mixed_number}
use Rattle.residue_numbers.proofs.MixedRadix.{range_more, mixed_within}
use Rattle.std.proofs.lemmas.Bool.{cases_lt, lt-ltb, le-ltb, false≢true}
use Rattle.std.proofs.Math.Bool.{beq}
use Rattle.std.proofs.lemmas.Int.{ints}
use Rattle.std.specs.Ordering.{MatchOrdering}
use Rattle.std.specs.declared.cmp.Ordering.{Ordering}
use Rattle.residue_numbers.specs.Signs.{signed_number}

-- below the digits from `place` on, which are the halves of odd moduli, the next digit tells the half of the range, or
-- that it is a half too
pub digit_tells : (ms ds : List ℕ) (place next : ℕ) → AreDigits ms ds → place ≤ length ms → place ≡ next + 1
    → 2 * mixed_number ms ds + range_below place ms ≡ 2 * mixed_below place ms ds + range_of ms
    → (get_or ms next 0 ≤ 2 * get_or ds next 0 → range_of ms ≤ 2 * mixed_number ms ds)
    × (2 * get_or ds next 0 + 2 ≤ get_or ms next 0 → 2 * mixed_number ms ds < range_of ms)
    × (get_or ms next 0 ≡ 2 * get_or ds next 0 + 1
    → 2 * mixed_number ms ds + range_below next ms ≡ 2 * mixed_below next ms ds + range_of ms)
digit_tells ms ds place next digits within one halves =
    let q = range_below next ms in
    let low = ap (λ k. mixed_below k ms ds) one ∙ sum_below-more (λ i. get_or ds i 0 * range_below i ms) next in
    let range = range_more ms place next one in
    let before = mixed_within next ms ds (λ i l. digits.below i (omega (arith, l, one, within))) in (
      λ h. let k = mul-le-mul_left q h in omega (arith, halves, low, range, k),
      λ h. let k = mul-le-mul_left q h in omega (arith, halves, low, range, before, k),
      λ h. let k = ap (λ n. q * n) h in omega (arith, halves, low, range, k),
    )

-- halves of odd moduli alone are below it
pub odd_halves_are_low : (ms ds : List ℕ) (place : ℕ) → place ≡ 0
    → 2 * mixed_number ms ds + range_below place ms ≡ 2 * mixed_below place ms ds + range_of ms
    → 2 * mixed_number ms ds < range_of ms
odd_halves_are_low ms ds place none halves =
    let low = ap (λ k. mixed_below k ms ds) none ∙ sum_below-zero (λ i. get_or ds i 0 * range_below i ms) in
    let range = ap (λ k. range_below k ms) none ∙ product-zero (slice_index ms) in
    omega (arith, halves, low, range)

-- what a number represents below half of the range, and from there on
signed_low : (range x : ℕ) → 2 * x < range → signed_number range x ≡ pos x -ℤ pos 0
signed_low range x h = ap (λ b. if b then pos x else pos x -ℤ pos range) (lt-ltb (2 * x) range h) ∙ omega (arith, ints)

signed_high : (range x : ℕ) → range ≤ 2 * x → signed_number range x ≡ pos x -ℤ pos range
signed_high range x h = ap (λ b. if b then pos x else pos x -ℤ pos range) (le-ltb (2 * x) range h)

-- it is negative exactly there
negative_high : (range x : ℕ) → x < range → range ≤ 2 * x → signed_number range x <ℤ pos 0
negative_high range x h high = let e = signed_high range x high in omega (arith, ints, e, h)

pub high_of_negative : (range x : ℕ) → signed_number range x <ℤ pos 0 → range ≤ 2 * x
high_of_negative range x negative = search (arith, cases_lt, signed_low)

same_bool : (l r : Bool) → beq l r ≡ true → l ≡ r
same_bool l r e = grind arith

-- a sign by the half of the range
pub sign_is : (b : Bool) (range x : ℕ) → x < range → IsTrue b ↔ (range ≤ 2 * x)
    → IsTrue b ↔ (signed_number range x <ℤ pos 0)
sign_is b range x h is = (λ t. negative_high range x h (is.0 t), λ negative. is.1 (high_of_negative range x negative))

low_of_other : (range x : ℕ) → x < range → (signed_number range x <ℤ pos 0 → ⊥) → 2 * x < range
low_of_other range x h other = search (arith, cases_lt, negative_high)

-- numbers on one side compare as what they represent
ordered_with : (o : Ordering) (d x y : ℕ) (v w : ℤ) → v ≡ pos x -ℤ pos d → w ≡ pos y -ℤ pos d
    → MatchOrdering o (x < y) (x ≡ y) (y < x) → MatchOrdering o (v <ℤ w) (v ≡ w) (w <ℤ v)
ordered_with o d x y v w e f h = grind (arith, ints)

pub ordered_alike : (l r : Bool) (o : Ordering) (range x y : ℕ) → x < range → y < range
    → IsTrue l ↔ (signed_number range x <ℤ pos 0) → IsTrue r ↔ (signed_number range y <ℤ pos 0) → beq l r ≡ true
    → MatchOrdering o (x < y) (x ≡ y) (y < x)
    → MatchOrdering o (signed_number range x <ℤ signed_number range y) (signed_number range x ≡ signed_number range y)
    (signed_number range y <ℤ signed_number range x)
ordered_alike l r o range x y h k left right alike =
    search (arith, ordered_with, signed_high, high_of_negative, same_bool, signed_low, low_of_other, false≢true)
