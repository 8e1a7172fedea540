-- The inverse of a number modulo the base, from its negated inverse.
use Rattle.std.proofs.Common.{◌≡◌, ◌↔◌, ◌⊎◌, ℕ, ◌+◌, ◌-◌, ◌*◌, ◌%◌, ◌<◌, ◌≤◌, sym, ap, ◌∙◌, arith, refl}
use Rattle.std.proofs.Math.Nat.{mod-eq_of_lt}
use Rattle.modular_word.specs.Reduction.{IsNegatedInverse}
use Rattle.modular_word.proofs.Congruence.{same_product, same_without, next_is_multiple}

-- the number that the negated inverse brings to 0 is the inverse
pub product_with_opposite_is_one : (b d n i : ℕ) → 1 < b → IsNegatedInverse b d n → (i + n) % b ≡ 0 → (d * i) % b ≡ 1
product_with_opposite_is_one b d n i h is e =
    let z : 0 % b ≡ 0 = mod-eq_of_lt (omega arith) in
    let both : (d * i + d * n) % b ≡ (1 + d * n) % b =
    ap (λ v. v % b) (omega arith) ∙ same_product b d d (i + n) 0 refl (e ∙ sym z) ∙ ap (λ v. v % b) (omega arith)
    ∙ sym (next_is_multiple b (d * n) (omega arith) is.product) ∙ ap (λ v. v % b) (omega arith) in
    same_without b (d * i) 1 (d * n) (omega arith) both ∙ mod-eq_of_lt h

-- a remainder that 1 more brings to 0 is the greatest
greatest_remainder : (b p : ℕ) → p < b → (p + 1) % b ≡ 0 → (p + 1 < b) ⊎ (b ≤ p + 1) → p ≡ b - 1
greatest_remainder b p below none cases = grind (arith, mod-eq_of_lt)

-- the remainder p of a product and 1 have the remainder 0 exactly where p is the greatest remainder
pub negated_inverse_tested : (b m i p one s : ℕ) → p ≡ (m * i) % b → p < b → one ≡ 1 → s ≡ (p + one) % b
    → (s ≡ 0) ↔ IsNegatedInverse b m i
negated_inverse_tested b m i p one s is below unit sum =
    grind (arith, greatest_remainder, next_is_multiple, mod-eq_of_lt)
