-- The arithmetic of a difference of products by double words, in words of which there are b.
use Rattle.std.proofs.Common.{◌≡◌, ℕ, ◌+◌, ◌-◌, ◌*◌, ◌%◌, ◌<◌, ◌≤◌, sym, ap, ◌∙◌, arith}
use Rattle.std.proofs.Math.Nat.{mod_self, mod-eq_of_lt, mul-le-mul_right, add-mul-mod_self_right}
use Rattle.modular_word.proofs.Congruence.{mod_cancel}

-- the word whose sum with m is 0 modulo b
pub minus_is_complement : (b m c : ℕ) → 0 < m → m ≤ b → c < b → (c + m) % b ≡ 0 → c + m ≡ b
minus_is_complement b m c some room fits none = grind (arith, mod_self, mod_cancel)

-- a difference below b, in a sum of double words
pub difference_sum_fits_double_word : (b m p q c : ℕ) → 2 * m ≤ b → q < b → p < q * m + 2 * m → c + m ≡ b
    → p + q * c < b * b
difference_sum_fits_double_word b m p q c room fits below is =
    let whole : q * (c + m) ≡ q * b = ap (λ v. q * v) is in
    let upper : (q + 1) * b ≤ b * b = mul-le-mul_right b (let k : q + 1 ≤ b = omega (arith, fits) in k) in
    omega (arith, whole, upper, room, below)

-- the difference is the low word of the sum
pub rest_is_low_word : (b m p q c low high : ℕ) → 2 * m ≤ b → q * m ≤ p → p < q * m + 2 * m → c + m ≡ b
    → p + q * c ≡ low + b * high → low < b
    → low + q * m ≡ p
rest_is_low_word b m p q c low high room most below is sum fits =
    let rest : ℕ = p - q * m in
    let small : rest < b = omega (arith, below, room) in
    let whole : q * (c + m) ≡ q * b = ap (λ v. q * v) is in
    let e : rest + q * b ≡ low + high * b = omega (arith, whole, sum) in
    let same : rest ≡ low =
    sym (add-mul-mod_self_right rest q b ∙ mod-eq_of_lt small) ∙ ap (λ v. v % b) e
    ∙ add-mul-mod_self_right low high b ∙ mod-eq_of_lt fits in
    omega (arith, same)
