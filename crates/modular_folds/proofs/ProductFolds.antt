-- Folds of a product whose parts at the bit p are words, the lower one at the top of its word.
use Rattle.std.proofs.Common.{◌≡◌, ℕ, ◌+◌, ◌-◌, ◌*◌, ◌/◌, ◌%◌, ◌^◌, ◌<◌, ◌≤◌, arith, ap, sym, ◌∙◌}
use Rattle.std.proofs.Math.Nat.{mul-le-mul_left, mod-lt, mul-div_left}
use Rattle.std.proofs.Math.Nat.{mul-div-mul_right, div-add-mod, div-lt_iff_lt-mul, zero-div}
use Rattle.std.proofs.lemmas.Nat.{div-mul-add, pow_pos, pow-add, mul-lt}
use Rattle.modular_folds.specs.Folds.{fold_of, IsFolding}
use Rattle.modular_folds.proofs.FoldSteps.{fold_keeps}
use Rattle.modular_folds.proofs.FoldBounds.{first_fold, small_square}

-- the words of n times s, where there are q * s words, are the parts of n at q, the lower one times s
pub scaled_parts : (q s n : ℕ) {low high : ℕ} → 0 < s → n * s ≡ low + q * s * high → low < q * s
    → (low ≡ n % q * s) × (high ≡ n / q)
scaled_parts q s n {low} {high} some words below =
    let split : high * (q * s) + low ≡ n * s = omega (arith, words) in
    let high_is : high ≡ n / q = sym (div-mul-add _ _ _ below) ∙ ap (λ v. v / (q * s)) split
    ∙ mul-div-mul_right n q some in
    (omega (arith, words, ap (λ k. k * s) (div-add-mod n q), ap (λ h. q * s * h) high_is), high_is)

-- the power of two that takes 2^p to the base
pub power_whole : (w p base : ℕ) → p ≤ w → base ≡ 2 ^ w → 2 ^ p * 2 ^ (w - p) ≡ base
power_whole w p base fits is = grind (arith, pow-add)

-- the parts at the bit p of k, which is n, the lower one taken back from the top of a word of w bits
parts_from_word_top : (w p n k : ℕ) {low high : ℕ} → k ≡ n → low ≡ k % 2 ^ p * 2 ^ (w - p) → high ≡ k / 2 ^ p
    → (low / 2 ^ (w - p) ≡ n % 2 ^ p) × (high ≡ n / 2 ^ p)
parts_from_word_top w p n k same low_is high_is = grind (arith, mul-div_left, pow_pos)

-- the upper part of a product of two numbers below m is below it
pub product_high : (p m a b : ℕ) → a < m → b < m → m ≤ 2 ^ p → a * b / 2 ^ p < m
product_high p m a b left right most = grind (arith, mul-lt, mul-le-mul_left, div-lt_iff_lt-mul, pow_pos)

-- v is congruent to a + b modulo m, where b is at most m and the sum below 2m
pub record IsLastSum (m v a b : ℕ) : Type 0 where
  pub most : b ≤ m
  pub twice : a + b < 2 * m
  pub same : (a + b) % m ≡ v % m

-- ---- the two ways of a product
module _ (w p c m : ℕ) (is : IsFolding w p c m) where
  -- by 1: the words of the product
  pub sum_by_one : {a b none low high bits back : ℕ} → c ≡ 1 → a < m → b < m → none ≡ 0
      → low ≡ (a * b + none / 2 ^ (w - p)) % 2 ^ p * 2 ^ (w - p) → high ≡ (a * b + none / 2 ^ (w - p)) / 2 ^ p
      → bits ≡ w → back ≡ low / 2 ^ (bits - p) → IsLastSum m (a * b) high back
  sum_by_one {a} {b} {none} {low} {high} {bits} {back} one left right zeros low_is high_is width shift =
      let v = a * b in
      let gone = ap (λ z. z / 2 ^ (w - p)) zeros ∙ zero-div (2 ^ (w - p)) in
      let first = parts_from_word_top w p v (v + none / 2 ^ (w - p)) (omega (arith, gone)) low_is high_is in
      let back_is : back ≡ v % 2 ^ p = shift ∙ ap (λ n. low / 2 ^ (n - p)) width ∙ first.0 in
      let rest = mod-lt v (pow_pos p) in
      let sum : v / 2 ^ p * 1 + v % 2 ^ p ≡ high + back = omega (arith, first.1, back_is) in
      grind (arith, fold_keeps)

  -- by a small number: the words of its fold
  pub sum_by_small : {a b none low high next over bits back : ℕ} → c < 2 ^ (p / 2) → a < m → b < m → none ≡ 0
      → low ≡ (a * b + none / 2 ^ (w - p)) % 2 ^ p * 2 ^ (w - p) → high ≡ (a * b + none / 2 ^ (w - p)) / 2 ^ p
      → next ≡ (high * c + low / 2 ^ (w - p)) % 2 ^ p * 2 ^ (w - p) → over ≡ (high * c + low / 2 ^ (w - p)) / 2 ^ p
      → bits ≡ w → back ≡ next / 2 ^ (bits - p) → IsLastSum m (a * b) back (over * c)
  sum_by_small {a} {b} {none} {low} {high} {next} {over} {bits}
      {back} small left right zeros low_is high_is next_is over_is width shift =
      let v = a * b in
      let gone = ap (λ z. z / 2 ^ (w - p)) zeros ∙ zero-div (2 ^ (w - p)) in
      let first = parts_from_word_top w p v (v + none / 2 ^ (w - p)) (omega (arith, gone)) low_is high_is in
      let less = product_high p m a b left right (omega (arith, is.whole)) in
      let fold = fold_of p c v in
      let folded : high * c + low / 2 ^ (w - p) ≡ fold = omega (arith, ap (λ h. h * c) first.1, first.0) in
      let second = parts_from_word_top w p fold (high * c + low / 2 ^ (w - p)) folded next_is over_is in
      let back_is : back ≡ fold % 2 ^ p = shift ∙ ap (λ n. next / 2 ^ (n - p)) width ∙ second.0 in
      let rest = mod-lt fold (pow_pos p) in
      let most : fold / 2 ^ p ≤ c = first_fold p c v (omega (arith, less, is.whole)) in
      let whole = small_square p c small in
      let sum : fold / 2 ^ p * c + fold % 2 ^ p ≡ back + over * c = omega (arith, back_is, ap (λ h. h * c) second.1) in
      grind (arith, fold_keeps)
