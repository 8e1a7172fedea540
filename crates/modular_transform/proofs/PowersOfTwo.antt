-- A power of two has one bit set, and its trailing zeros are its exponent.
use Rattle.std.proofs.Common.{◌↔◌, ◌≡◌, ◌≢◌, ℕ, suc, zero, ◌%◌, ◌/◌, ◌^◌, ◌<◌, ◌≤◌}
use Rattle.std.proofs.Common.{IsTrue, count_ones, inl, inr, sym, ◌∙◌, ap, arith}
use Rattle.std.proofs.lemmas.Bool.{cases_eq, cases_lt}
use Rattle.std.proofs.lemmas.Bool.Decides.{nat_tests}
use Rattle.std.proofs.lemmas.Nat.{pow_pos, zero_from_ones, ones_le_self}
use Rattle.std.proofs.lemmas.Nat.Bits.{bit_at-pow_other, bit_at-trailing_zeros}
use Rattle.std.proofs.Math.Nat.{two-pow-succ, pow-le-pow_right}
use Rattle.std.specs.Int.{trailing_zeros, w64, is_power_of_two, IsPowerOfTwo}
use Rattle.std.specs.Int.Count.{ones_step}

ones_of_power : (z : ℕ) → count_ones (2 ^ z) ≡ 1
ones_of_power zero = omega (arith, ones_step (2 ^ 0), ones_le_self (2 ^ 0 / 2))
ones_of_power (suc z) = grind (arith, two-pow-succ z, ones_step (2 ^ suc z), ones_of_power z)

power_of_ones : (fuel n : ℕ) → n ≤ fuel → count_ones n ≡ 1 → IsPowerOfTwo n
power_of_ones zero n l h = let e = ones_le_self n in absurd (omega (arith, e, h))
power_of_ones (suc fuel) n l h = elim (cases_eq (n % 2) 0) [
  | inl even ↦
      let k = power_of_ones fuel (n / 2) (omega arith) (omega (arith, ones_step n, h, even)) in
      (suc k.0, omega (arith, k.1, two-pow-succ k.0, even))
  | inr odd ↦
      grind (arith, zero_from_ones (n / 2) (omega (arith, ones_step n, h, odd)))
]

-- the test of one bit is the test of a power of two
pub power_of_two_tested : (n : ℕ) → IsTrue (is_power_of_two n) ↔ IsPowerOfTwo n
power_of_two_tested n = (
  λ (h : IsTrue (is_power_of_two n)).
      power_of_ones n n (omega arith) (let e : count_ones n ≡ 1 = grind (arith, nat_tests, h) in e),
  λ (p : IsPowerOfTwo n). let e : count_ones n ≡ 1 = ap (λ v. count_ones v) p.1 ∙ ones_of_power p.0 in
      grind (arith, nat_tests, e),
)

-- the exponent of a power of two is its number of trailing zeros
pub trailing_zeros_of_power : (z n : ℕ) → n ≡ 2 ^ z → n < 2 ^ 64 → trailing_zeros w64 n ≡ z
trailing_zeros_of_power z n is below =
    let some : 0 < n = let p = pow_pos z in omega arith in
    grind (arith, (cases_eq (trailing_zeros w64 n) z), bit_at-pow_other, (bit_at-trailing_zeros w64 n some below).1)

pub power_by_zeros : (n : ℕ) → IsPowerOfTwo n → n < 2 ^ 64 → n ≡ 2 ^ trailing_zeros w64 n
power_by_zeros n p below = p.1 ∙ ap (λ k. 2 ^ k) (sym (trailing_zeros_of_power p.0 n p.1 below))

pub exponent_above_zero : (z n : ℕ) → n ≡ 2 ^ z → n ≢ 1 → 0 < z
exponent_above_zero zero n whole other = absurd (other whole)
exponent_above_zero (suc z) n whole other = omega arith

pub beyond_one : (n : ℕ) → IsPowerOfTwo n → n ≢ 1 → 1 < n
beyond_one n p other = let q = pow_pos p.0 in let e = p.1 in omega arith

-- the exponent of a power of two that is a word
pub exponent_below : (z n : ℕ) → n ≡ 2 ^ z → n < 2 ^ 64 → z < 64
exponent_below z n is below = elim (cases_lt z 64) [
  | inl l ↦ l
  | inr l ↦ let p = pow-le-pow_right {n = 2} (omega arith) {i = 64} {j = z} l in absurd (omega (arith, p, is))
]
