-- Remainders of numbers that are shifted with the modulus.
use Rattle.std.proofs.Common.{◌≡◌, ℕ, ◌+◌, ◌*◌, ◌/◌, ◌%◌, ◌^◌, ◌<◌, sym, ◌∙◌, ap, arith}
use Rattle.std.proofs.Math.Nat.{mul-lt-mul_of_pos_right}
use Rattle.std.proofs.lemmas.Nat.{pow_pos, shl-shr, div-mul-add, mod-mul-add, div_below, mod_below, div-add-mod'}

-- a double word below m * 2 ^ 64 stays below when both are shifted
shifted_below : (m s z d t : ℕ) → t < m * 18446744073709551616 → d ≡ m * 2 ^ z → s ≡ z
    → t * 2 ^ s < d * 18446744073709551616
shifted_below m s z d t below is shift =
    let l : t * 2 ^ s < m * 18446744073709551616 * 2 ^ s = mul-lt-mul_of_pos_right below (pow_pos s) in
    let e : d ≡ m * 2 ^ s = is ∙ ap (λ n. m * 2 ^ n) (sym shift) in
    omega (arith, l, e)

-- it is divided by the shifted modulus
pub shifted_dividend_below_divisor : (m s z d t : ℕ) → t < m * 18446744073709551616 → d ≡ m * 2 ^ z → s ≡ z
    → t * 2 ^ s % 340282366920938463463374607431768211456 < d * 18446744073709551616
shifted_dividend_below_divisor m s z d t below is shift = let l = shifted_below m s z d t below is shift in
    omega (arith, l)

-- the remainder of that division, shifted back
pub shifted_remainder : (m s z d t q r : ℕ) → t < m * 18446744073709551616 → d ≡ m * 2 ^ z → s ≡ z
    → d < 18446744073709551616 → t * 2 ^ s % 340282366920938463463374607431768211456 ≡ q * d + r → r < d
    → r / 2 ^ s ≡ t % m
shifted_remainder m s z d t q r below is shift word whole less =
    let p = 2 ^ s in
    let some = pow_pos s in
    let v = r / p in
    let e : d ≡ m * p = is ∙ ap (λ n. m * 2 ^ n) (sym shift) in
    let kept : t * p ≡ q * d + r = omega (arith, whole, shifted_below m s z d t below is shift, word) in
    let multiple : q * d ≡ q * m * p = ap (λ n. q * n) e ∙ omega arith in
    let shifted : t * p ≡ (q * m + v) * p + r % p = omega (arith, kept, multiple, div-add-mod' r p) in
    let same : t ≡ q * m + v =
    sym (shl-shr t s) ∙ ap (λ n. n / p) shifted ∙ div-mul-add (q * m + v) p (r % p) (mod_below r p some) in
    sym (ap (λ n. n % m) same ∙ mod-mul-add q m v (div_below r p m some (omega (arith, less, e))))

-- .. which is below m
pub shifted_below_modulus : (m s z d r : ℕ) → d ≡ m * 2 ^ z → s ≡ z → r < d → r / 2 ^ s < m
shifted_below_modulus m s z d r is shift less = search (arith, div_below, pow_pos)
