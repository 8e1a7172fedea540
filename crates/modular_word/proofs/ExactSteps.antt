-- The arithmetic of exact division by an inverse modulo the base.
use Rattle.std.proofs.Common.{◌≡◌, ℕ, ◌+◌, ◌-◌, ◌*◌, ◌/◌, ◌%◌, ◌<◌, ◌≤◌, sym, ap, ◌∙◌, arith}
use Rattle.std.proofs.Math.Nat.{mod-eq_of_lt, mul-le-mul_left}
use Rattle.std.proofs.Math.Nat.{mul-le-mul_right, add-mul-mod_self_left, zero-mod}
use Rattle.std.proofs.lemmas.Nat.{mul-mod_first, mul-mod_second, le-div}
use Rattle.modular_word.proofs.Congruence.{factor_cancel}

-- the product with the inverse and then with the divisor is the number again
pub quotient_times_divisor : (B d i n : ℕ) → (d * i) % B ≡ 1 → ((n * i) % B * d) % B ≡ n % B
quotient_times_divisor B d i n e =
    let e2 : n * 1 ≡ n = omega arith in
    grind (arith, mul-mod_first, mul-mod_second)

-- the product with the divisor and then with the inverse is the number again
pub quotient_of_multiple : (B d i k : ℕ) → (d * i) % B ≡ 1 → (k * d * i) % B ≡ k % B
quotient_of_multiple B d i k e =
    let e2 : k * 1 ≡ k = omega arith in
    grind (arith, mul-mod_second)

-- a divisor with an inverse is not 0
pub divisor_positive : (B d i : ℕ) → (d * i) % B ≡ 1 → 0 < d
divisor_positive B d i e = grind (arith, mul-le-mul_right, zero-mod)

-- a quotient within the limit is exact
pub exact_within : (B d i n q : ℕ) → n < B → (d * i) % B ≡ 1 → q ≡ (n * i) % B → q ≤ (B - 1) / d
    → q * d ≡ n
exact_within B d i n q hn e eq hq =
    let m : q * d ≤ (B - 1) / d * d = mul-le-mul_right _ hq in
    sym (mod-eq_of_lt (omega arith)) ∙ (ap (λ x. (x * d) % B) eq ∙ quotient_times_divisor _ _ _ _ e) ∙ mod-eq_of_lt hn

-- the quotient of a multiple of the divisor is within the limit
pub quotient_within : (B d i n k q : ℕ) → n < B → (d * i) % B ≡ 1 → q ≡ (n * i) % B → k * d ≡ n
    → (q ≡ k) × (q ≤ (B - 1) / d)
quotient_within B d i n k q hn e eq ek =
    grind (arith, divisor_positive, mul-le-mul_left, quotient_of_multiple, mod-eq_of_lt, le-div)

-- the low word of the quotient's low word times the divisor is the number's low word
pub low_again : (B d i n0 q0 low h : ℕ) → n0 < B → low < B → (d * i) % B ≡ 1
    → q0 ≡ (n0 * i) % B → q0 * d ≡ low + B * h → q0 * d ≡ n0 + B * h
low_again B d i n0 q0 low h hn hlow e eq ep =
    let same : low ≡ n0 =
    sym (mod-eq_of_lt hlow) ∙ sym (add-mul-mod_self_left _ _ _) ∙ ap (λ x. x % B) (sym ep)
    ∙ (ap (λ x. (x * d) % B) eq ∙ quotient_times_divisor _ _ _ _ e) ∙ mod-eq_of_lt hn in
    omega arith

-- of a double word that the divisor divides, the high part of the quotient divides what is left
pub high_left : (B d i n0 n1 q0 h K : ℕ) → n0 < B → (d * i) % B ≡ 1 → q0 ≡ (n0 * i) % B
    → q0 * d ≡ n0 + B * h → K * d ≡ n0 + B * n1 → K / B * d + h ≡ n1
high_left B d i n0 n1 q0 h K hn e eq ep eK =
    let g : (n0 + B * n1) * i ≡ n0 * i + B * (n1 * i) = omega arith in
    let low : K % B ≡ q0 =
    sym (quotient_of_multiple _ _ _ _ e) ∙ ap (λ x. (x * i) % B) eK ∙ ap (λ x. x % B) g ∙ add-mul-mod_self_left _ _ _
    ∙ sym eq in
    let fd : (B * (K / B) + q0) * d ≡ K * d = ap (λ x. x * d) (let f' : B * (K / B) + q0 ≡ K = omega arith in f') in
    let top : B * (K / B * d + h) ≡ B * n1 = omega arith in
    factor_cancel _ (K / B * d + h) _ (omega arith) top
