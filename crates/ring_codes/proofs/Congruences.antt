-- Congruences that are linear combinations of others.
use Rattle.ring_codes.proofs.Names.{◌≡◌, ◌+◌, ◌*◌, ◌%◌, ◌<◌, ◌-ℤ◌, ◌∙◌, ℕ, zero, suc, pos, ap, arith, mod-lt}
use Rattle.ring_codes.proofs.Names.{add-mul-mod_self_left, mul-mod_first, mul-mod_second, Congruent, IsInverse}
use Rattle.ring_codes.proofs.Names.{HasInverse, mod_of_eq, mod_refl, mod_sym, residue_of, mod_trans, mod_add, mod_mul}
use Rattle.ring_codes.proofs.Names.{mod_add_cancel, difference_and, residue}
use Rattle.num_modular.specs.Products.{product_below}

-- two numbers whose difference is that of two congruent ones, such as a sum of multiples
pub mod_of_combination : {m a b u v : ℕ} → Congruent m a b → u + b ≡ v + a → Congruent m u v
mod_of_combination {m} {a} {b} {u} {v} h e = mod_add_cancel b (mod_trans (mod_of_eq e) (mod_add (mod_refl v) h))

-- what such a sum is made of: a multiple of a congruence, and a multiple of the modulus
pub mod_times : {m a b : ℕ} (c : ℕ) → Congruent m a b → Congruent m (c * a) (c * b)
mod_times c h = mod_mul (mod_refl c) h

pub mod_of_modulus : {m : ℕ} (q : ℕ) → Congruent m (m * q) 0
mod_of_modulus {m} q = record {
  same = (let e : m * q ≡ 0 + m * q = omega arith in ap (λ v. v % m) e
      ∙ add-mul-mod_self_left 0 m q);
}

-- .. a residue, the residue of a difference, and an inverse
pub mod_of_residue : {m a b : ℕ} → a ≡ b % m → Congruent m a b
mod_of_residue {m} {a} {b} e = mod_trans (mod_of_eq e) (residue_of b)

pub mod_of_difference : {m d a : ℕ} (b : ℕ) → 0 < m → d ≡ residue m (pos a -ℤ pos b) → Congruent m (d + b) a
mod_of_difference {m} {d} {a} b positive e = record { same = ap (λ v. (v + b) % m) e ∙ difference_and m a b positive }

pub mod_of_inverse : {m a x : ℕ} → IsInverse m a x → Congruent m (a * x) 1
mod_of_inverse h = record { same = h.one }

-- a multiple of 0 may be left out
pub left_alone : (m a q b c : ℕ) → Congruent m (a + q * b) c → Congruent m b 0 → Congruent m a c
left_alone m a q b c is none = mod_of_combination (mod_add is (mod_times q (mod_sym none))) (omega arith)

pub left_alone_other : (m a q b : ℕ) → Congruent m b 0 → Congruent m (a + q * b) a
left_alone_other m a q b none = mod_of_combination (mod_times q none) (omega arith)

pub has_one : (m : ℕ) → 0 < m → HasInverse m (1 % m)
has_one m positive =
    let e : 1 * 1 ≡ 1 = omega arith in (
      1 % m,
      record {
        below = mod-lt 1 positive;
        one = mul-mod_second (1 % m) 1 m ∙ mul-mod_first 1 1 m
            ∙ ap (λ v. v % m) e;
      },
    )

-- products of congruent factors
pub product-congruent : (m n : ℕ) (f g : ℕ → ℕ) → ((i : ℕ) → i < n → Congruent m (f i) (g i))
    → Congruent m (product_below n f) (product_below n g)
unfolding product_below
product-congruent m zero f g same = mod_refl 1
product-congruent m (suc n) f g same =
    mod_mul (product-congruent m n f g (λ i l. same i (omega arith))) (same n (omega arith))
