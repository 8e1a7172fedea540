-- Sums of powers of h that vanish modulo m: no field is needed.
use Rattle.std.proofs.Common.{◌≡◌, ℕ, suc, zero, ◌+◌, ◌*◌, ◌%◌, ◌/◌, ◌^◌, ◌<◌, sym, ◌∙◌, ap, arith, inl, inr}
use Rattle.std.proofs.lemmas.Nat.{pow-add}
use Rattle.std.proofs.lemmas.Bool.{cases_lt, cases_eq}
use Rattle.std.proofs.Math.Nat.{two-pow-succ}
use Rattle.modular_word.specs.Sums.{sum_below}
use Rattle.modular_word.specs.Congruence.{Congruent}
use Rattle.modular_word.proofs.Congruence.{mod_of_eq, mod_refl, mod_trans, mod_mul}
use Rattle.modular_word.proofs.Powers.{pow-mul}
use Rattle.modular_transform.proofs.MinusOne.{IsMinusOne, odd_power_of_minus_one, same_minus_one}
use Rattle.modular_word.proofs.Sums.{sum_below-same, sum_below-joined, sum_below-mul}

-- 1 + h + .. + h ^ (n - 1)
abbrev pub geometric : ℕ → ℕ → ℕ
geometric n h = sum_below n (λ j. h ^ j)

-- twice as many summands
pub geometric_doubled : (n h : ℕ) → geometric (n + n) h ≡ geometric n h * (h ^ n + 1)
geometric_doubled n h =
    let j = sum_below-joined n n (λ j. h ^ j) in
    let s = sum_below-same n (λ j. h ^ (n + j)) (λ j. h ^ n * h ^ j) (λ j l. pow-add h n j) in
    j ∙ ap (λ v. geometric n h + v) (s ∙ (sum_below-mul n (h ^ n) (λ j. h ^ j))) ∙ omega arith

-- a sum of 2 ^ z powers vanishes where one of its factors 1 + h ^ 2 ^ t does
pub geometric_vanishes : {m : ℕ} (z t h : ℕ) → t < z → IsMinusOne m (h ^ (2 ^ t)) → Congruent m (geometric (2 ^ z) h) 0
geometric_vanishes zero t h l factor = absurd (omega arith)
geometric_vanishes {m} (suc z) t h l factor =
    let double : geometric (2 ^ suc z) h ≡ geometric (2 ^ z) h * (h ^ (2 ^ z) + 1) =
    ap (λ n. geometric n h) (two-pow-succ z) ∙ geometric_doubled (2 ^ z) h in
    let left : 0 * (h ^ (2 ^ z) + 1) ≡ 0 = omega arith in
    let right : geometric (2 ^ z) h * 0 ≡ 0 = omega arith in
    elim (cases_lt t z) [
      | inl k ↦ mod_trans (mod_of_eq double) (mod_trans (mod_mul (geometric_vanishes _ _ _ k factor) (mod_refl _))
          (mod_of_eq left))
      | inr k ↦
          let same : t ≡ z = omega arith in
          mod_trans (mod_of_eq double) (mod_trans
          (mod_mul (mod_refl _) (same_minus_one (ap (λ n. h ^ (2 ^ n)) same) factor).and_one) (mod_of_eq right))
    ]

-- some doubling of d is an odd multiple of 2 ^ y
pub record OddMultiple (y d : ℕ) : Type 0 where
  pub doublings : ℕ
  pub half : ℕ
  pub few : doublings < suc y
  pub reached : d * 2 ^ doublings ≡ 2 ^ y * (2 * half + 1)

of_odd : (y d : ℕ) → d % 2 ≡ 1 → OddMultiple y d
of_odd y d odd =
    let e : d ≡ 2 * (d / 2) + 1 = omega arith in
    record { doublings = y; half = d / 2; few = omega arith; reached = ap (λ v. v * 2 ^ y) e ∙ omega arith }

of_even : (y d : ℕ) → d % 2 ≡ 0 → OddMultiple y (d / 2) → OddMultiple (suc y) d
of_even y d even k =
    let e : d ≡ 2 * (d / 2) = omega arith in
    record {
      doublings = k.doublings;
      half = k.half;
      few = omega arith;
      reached = ap (λ v. v * 2 ^ k.doublings) e
          ∙ omega (arith, k.reached, ap (λ v. v * (2 * k.half + 1)) (two-pow-succ y));
    }

pub odd_multiple : (y d : ℕ) → 0 < d → d < 2 ^ suc y → OddMultiple y d
odd_multiple zero d some below = omega (arith, of_odd)
odd_multiple (suc y) d some below =
    elim (cases_eq (d % 2) 0) [
      | inl e ↦ of_even y d e (odd_multiple y (d / 2) (omega arith) (omega arith))
      | inr n ↦ of_odd (suc y) d (omega arith)
    ]

-- the powers of g ^ d add up to 0, where g to the half of 2 ^ (y + 1) is -1
pub geometric_sum_vanishes : {m : ℕ} (y g d : ℕ) → IsMinusOne m (g ^ (2 ^ y)) → 0 < d → d < 2 ^ suc y
    → Congruent m (geometric (2 ^ suc y) (g ^ d)) 0
geometric_sum_vanishes {m} y g d half_turn some below =
    let k = odd_multiple _ _ some below in
    let e : (g ^ d) ^ (2 ^ k.doublings) ≡ (g ^ (2 ^ y)) ^ (2 * k.half + 1) =
    sym (pow-mul _ _ _) ∙ ap (λ n. g ^ n) k.reached ∙ pow-mul g (2 ^ y) (2 * k.half + 1) in
    geometric_vanishes _ _ _ k.few (same_minus_one (sym e) (odd_power_of_minus_one _ half_turn))
