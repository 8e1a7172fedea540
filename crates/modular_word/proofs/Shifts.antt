-- Shifts and masks of words.
use Rattle.std.proofs.Common.{◌≡◌, ℕ, ◌+◌, ◌-◌, ◌*◌, ◌/◌, ◌%◌, ◌^◌, ◌<◌, ◌≤◌, ap, ◌∙◌, arith, bit_and}
use Rattle.std.proofs.Math.Nat.{div-eq_of_lt-le, mod-eq_of_lt, mul-le-mul_left, mul-le-mul_right}
use Rattle.std.proofs.lemmas.Nat.{pow_pos, pow-add, and_mask, one_shl}

-- w ones, shifted right until n are left
pub ones_shifted : (w n top : ℕ) → n ≤ w → top + 1 ≡ 2 ^ w → top / 2 ^ (w - n) + 1 ≡ 2 ^ n
ones_shifted w n top h e = grind (arith, pow_pos, pow-add, div-eq_of_lt-le)

-- the mask of the low k of w bits gives the residue modulo 2^k
pub mask_keeps : (w n k : ℕ) → k < w → bit_and n (1 * 2 ^ k % 2 ^ w - 1) ≡ n % 2 ^ k
mask_keeps w n k h = ap (λ v. bit_and n (v - 1)) (one_shl k w h) ∙ and_mask n k

-- a word shifted left by less than its width fits a double word
pub shifted_fits : (w n k : ℕ) → n < 2 ^ w → k < w → n * 2 ^ k % 2 ^ (w + w) ≡ n * 2 ^ k
shifted_fits w n k h l =
    let whole : 2 ^ (w + w) ≡ 2 ^ w * 2 ^ w = pow-add _ _ _ in
    let split : 2 ^ w ≡ 2 ^ k * 2 ^ (w - k) =
    ap (λ v. 2 ^ v) (let s : w ≡ k + (w - k) = omega arith in s) ∙ pow-add _ _ _ in
    let q : 0 < 2 ^ k = pow_pos _ in
    let m1 : 2 ^ k * 1 ≤ 2 ^ k * 2 ^ (w - k) = mul-le-mul_left _ (pow_pos _) in
    let m2 : (n + 1) * 2 ^ k ≤ 2 ^ w * 2 ^ k = mul-le-mul_right _ (let a : n + 1 ≤ 2 ^ w = omega arith in a) in
    let m3 : 2 ^ w * 2 ^ k ≤ 2 ^ w * 2 ^ w = mul-le-mul_left _ (let a : 2 ^ k ≤ 2 ^ w = omega arith in a) in
    mod-eq_of_lt (let a : n * 2 ^ k < 2 ^ (w + w) = omega arith in a)
