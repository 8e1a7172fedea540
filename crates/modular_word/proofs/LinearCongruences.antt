-- Linear congruences, and two at once.
use Rattle.std.proofs.Common.{◌≡◌, ℕ, ◌+◌, ◌*◌, ◌%◌, ◌<◌, ap, ◌∙◌, sym, arith}
use Rattle.std.proofs.lemmas.Nat.{mul-mod_first, mul-mod_second, mul-add-lt}
use Rattle.std.proofs.Math.Nat.{mod-lt, mod-mod, mod-add-mod, add-mul-mod_self_left, one-mul, add_comm}
use Rattle.modular_word.specs.Inverses.{IsInverse}

product_regrouped : (a b x : ℕ) → a * (b * x) ≡ a * x * b
product_regrouped a b x = omega arith

-- the inverse times b, times a, is congruent to b
pub inverse_solves_congruence : (m a b x : ℕ) → IsInverse m a x → (a * ((b * x) % m)) % m ≡ b % m
inverse_solves_congruence m a b x h =
    mul-mod_second _ _ _ ∙ ap (λ n. n % m) (product_regrouped _ _ _) ∙ sym (mul-mod_first _ _ _)
    ∙ ap (λ n. (n * b) % m) h.one ∙ mul-mod_first _ _ _ ∙ ap (λ n. n % m) (one-mul _)

-- the number of the parts r modulo m and d, the difference, times x, modulo n
pub both_remainders : (m n a b d x : ℕ) → 0 < m → 0 < n → IsInverse n m x → (d + a % m) % n ≡ b % n
    → (a % m + m * ((d * x) % n) < m * n) × ((a % m + m * ((d * x) % n)) % m ≡ a % m)
    × ((a % m + m * ((d * x) % n)) % n ≡ b % n)
both_remainders m n a b d x p q h e =
    let below : (d * x) % n * m + a % m < m * n =
    mul-add-lt ((d * x) % n) _ _ _ (mod-lt _ q) (mod-lt _ p) in (
      omega (arith, below),
      add-mul-mod_self_left _ _ ((d * x) % n) ∙ mod-mod _ _,
      ap (λ s. s % n) (add_comm _ (m * ((d * x) % n))) ∙ sym (mod-add-mod (m * ((d * x) % n)) _ _)
          ∙ ap (λ s. (s + a % m) % n) (inverse_solves_congruence _ _ _ _ h) ∙ mod-add-mod _ _ _ ∙ e,
    )
