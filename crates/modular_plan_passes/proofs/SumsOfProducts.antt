-- The sum of two products, divided once by the reciprocal of a shifted modulus m, in words of which there are b.
use Rattle.std.proofs.Common.{◌≡◌, ℕ, zero, suc, ◌+◌, ◌-◌, ◌*◌, ◌/◌, ◌%◌, ◌^◌, ◌<◌, ◌≤◌, ap, arith}
use Rattle.std.proofs.Math.Nat.{mul-le-mul_left, mul-le-mul_right, mul-lt-mul_of_pos_right}
use Rattle.modular_word.specs.Division.{IsDivision}
use Rattle.modular_word.specs.Reciprocals.{IsReciprocal}
use Rattle.modular_plan_passes.proofs.FactorProducts.{divisor_fits, scaled_rest}

-- half the power of two by which a number is shifted to a divisor's place
pub record IsHalvedShift (m s : ℕ) : Type 0 where
  pub some : 1 ≤ s
  pub twice : 2 * m * 2 ^ (s - 1) ≡ m * 2 ^ s

pub halved_shift : {b v : ℕ} (m s : ℕ) → 1 ≤ m → 4 * m ≤ b → IsReciprocal b (m * 2 ^ s) v → IsHalvedShift m s
halved_shift {b} m zero some room is = omega arith
halved_shift {b} m (suc s) some room is =
    let e : suc s - 1 ≡ s = omega arith in
    let first : 2 * m * 2 ^ (suc s - 1) ≡ 2 * m * 2 ^ s = ap (λ v. 2 * m * 2 ^ v) e in
    let second : m * 2 ^ suc s ≡ m * (2 * 2 ^ s) = ap (λ v. m * v) (let k : 2 ^ suc s ≡ 2 * 2 ^ s = omega arith in k) in
    record { some = omega arith; twice = omega (arith, first, second) }

-- a number below 2 * m, shifted by one less, is a word
pub summand_fits : {b m v : ℕ} (s x : ℕ) → 1 ≤ m → 4 * m ≤ b → IsReciprocal b (m * 2 ^ s) v → x < 2 * m
    → x * 2 ^ (s - 1) < b
summand_fits {b} {m} {v} s x some room is below =
    grind (arith, mul-le-mul_right, (halved_shift m s some room is).twice, divisor_fits is)

-- a sum of two scaled products, in words of which there are b, where the scale is p and the divisor d
pub scaled_sum_fits : (b d m p x u v y : ℕ) → 2 * m * p ≡ d → 0 < p → x + u < 2 * m → v < b → y < b
    → x * p * v + u * p * y < d * b
scaled_sum_fits b d m p x u v y twice some below v_fits y_fits =
    let first : x * p * v ≤ x * p * b = mul-le-mul_left (x * p) (let k : v ≤ b = omega arith in k) in
    let second : u * p * y ≤ u * p * b = mul-le-mul_left (u * p) (let k : y ≤ b = omega arith in k) in
    let more : (x + u) * p < (2 * m) * p = mul-lt-mul_of_pos_right below some in
    let less : (x + u) * p < d = omega (arith, more, twice) in
    let third : (x + u) * p * b < d * b = mul-lt-mul_of_pos_right less (let k : 0 < b = omega arith in k) in
    omega (arith, first, second, third)

-- its rest, scaled back: the rest modulo 2 * m
pub rest_of_sum : (d m p x u v y sum q r : ℕ) → 2 * m * p ≡ d → 0 < p → sum ≡ x * p * v + u * p * y
    → IsDivision sum d q r → r / p ≡ (x * v + u * y) % (2 * m)
rest_of_sum d m p x u v y sum q r twice some is h =
    let one : x * v + u * y ≡ (x * v + u * y) * 1 = omega arith in
    grind (arith, scaled_rest)
