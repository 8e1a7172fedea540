-- Powers of a number that is -1 modulo m.
use Rattle.std.proofs.Common.{◌≡◌, ℕ, ◌+◌, ◌*◌, ◌^◌, sym, ◌∙◌, ap, arith}
use Rattle.std.proofs.lemmas.Nat.{pow-add, mul-pow}
use Rattle.modular_word.specs.Congruence.{Congruent}
use Rattle.modular_word.proofs.Congruence.{mod_of_eq, mod_refl, mod_sym, mod_trans, mod_add, mod_mul, mod_pow}
use Rattle.modular_word.proofs.Congruence.{mod_add_cancel}
use Rattle.modular_word.proofs.Powers.{one-pow, pow-one}

-- a is -1 modulo m
pub record IsMinusOne (m a : ℕ) : Type 0 where
  pub and_one : Congruent m (a + 1) 0

pub pow_of_square : (a k : ℕ) → (a * a) ^ k ≡ a ^ (2 * k)
pow_of_square a k = grind (arith, mul-pow a a k, pow-add a k k)

-- -1 times -1
square_of_minus_one : {m a : ℕ} → IsMinusOne m a → Congruent m (a * a) 1
square_of_minus_one {m} {a} h =
    let e : a * a + a ≡ a * (a + 1) = omega arith in
    mod_add_cancel _ (mod_trans (mod_of_eq e) (mod_trans (mod_mul (mod_refl _) h.and_one)
    (mod_trans (mod_of_eq (omega arith)) (mod_trans (mod_sym h.and_one) (mod_of_eq (sym (omega arith)))))))

pub even_power_of_minus_one : {m a : ℕ} (k : ℕ) → IsMinusOne m a → Congruent m (a ^ (2 * k)) 1
even_power_of_minus_one {m} {a} k h = grind (arith, pow_of_square a k, mod_pow k (square_of_minus_one h), one-pow k)

pub odd_power_of_minus_one : {m a : ℕ} (k : ℕ) → IsMinusOne m a → IsMinusOne m (a ^ (2 * k + 1))
odd_power_of_minus_one {m} {a} k h =
    record {
      and_one =
          mod_trans (mod_add (mod_trans (mod_of_eq (pow-add a (2 * k) 1 ∙ ap (λ v. a ^ (2 * k) * v) (pow-one _)))
          (mod_mul (even_power_of_minus_one _ h) (mod_refl _))) (mod_refl 1))
          (mod_trans (mod_of_eq (omega arith)) h.and_one);
    }

pub same_minus_one : {m a b : ℕ} → a ≡ b → IsMinusOne m a → IsMinusOne m b
same_minus_one e h = record { and_one = mod_trans (mod_of_eq (ap (λ v. v + 1) (sym e))) h.and_one }
