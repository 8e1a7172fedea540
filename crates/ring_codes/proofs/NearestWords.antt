-- Polynomials that are combined, and numbers in place of negative ones: (m - 1)·x takes the place of -x.
use Rattle.ring_codes.proofs.Names.{◌≡◌, ◌≢◌, ◌+◌, ◌-◌, ◌*◌, ◌%◌, ◌^◌, ◌<◌, ◌≤◌, ◌-ℤ◌, ◌∙◌, ℕ, zero, suc, pos, sym}
use Rattle.ring_codes.proofs.Names.{arith, refl, mod-eq_of_lt, zero-mod, add-mul-mod_self_left, mul-mod_first}
use Rattle.ring_codes.proofs.Names.{Congruent, HasInverse, mod_of_eq, mod_refl, mod_sym, mod_trans, mod_add, mod_mul}
use Rattle.ring_codes.proofs.Names.{sum_below-of_zeros, polynomial_at, polynomial-congruent, residue}
use Rattle.num_modular.specs.Sums.{sum_below}
use Rattle.ring_codes.proofs.Congruences.{mod_of_combination, mod_of_modulus, mod_of_difference}

pub polynomial_value_is_linear : (n : ℕ) (f g : ℕ → ℕ) (a X : ℕ)
    → polynomial_at n (λ i. f i + a * g i) X ≡ polynomial_at n f X + a * polynomial_at n g X
unfolding sum_below
polynomial_value_is_linear zero f g a X = omega arith
polynomial_value_is_linear (suc n) f g a X = let i = polynomial_value_is_linear n f g a X in omega (arith, i)

-- coefficients e with e l + b·g l congruent to h l
pub with_multiple : (m n b X : ℕ) (e g h : ℕ → ℕ) → ((l : ℕ) → l < n → Congruent m (e l + b * g l) (h l))
    → Congruent m (polynomial_at n e X + b * polynomial_at n g X) (polynomial_at n h X)
with_multiple m n b X e g h each =
    mod_trans (mod_of_eq (sym (polynomial_value_is_linear _ _ _ _ _))) (polynomial-congruent _ _ _ _ _ each
    (mod_refl _))

pub turned_sign : (m x : ℕ) → 0 < m → x + (m - 1) * x ≡ m * x
turned_sign m x positive =
    let s : suc (m - 1) ≡ m = omega arith in
    let e : x + (m - 1) * x ≡ suc (m - 1) * x = omega arith in rw s at e

pub at_root : (m x : ℕ) → 0 < m → (x + (m - 1) * x) % m ≡ 0
at_root m x positive = grind (arith, turned_sign, add-mul-mod_self_left, zero-mod)

pub difference_alike : (m X x : ℕ) → 0 < m → Congruent m (residue m (pos X -ℤ pos x)) (X + (m - 1) * x)
difference_alike m X x positive =
    let t = turned_sign m x positive in
    let is : Congruent m (residue m (pos X -ℤ pos x) + x) X = mod_of_difference x positive refl in
    mod_of_combination (mod_add is (mod_sym (mod_of_modulus x))) (omega (arith, t))

pub unit_alike : (m a b : ℕ) → Congruent m a b → HasInverse m a → HasInverse m b
unit_alike m a b e h =
    (h.0, record { below = h.1.below; one = (mod_mul (mod_sym e) (mod_refl h.0)).same ∙ h.1.one })

pub unit_residue_is_nonzero : (m a : ℕ) → 2 ≤ m → HasInverse m a → a % m ≢ 0
unit_residue_is_nonzero m a two h z =
    absurd (omega (arith, rw (← mul-mod_first a h.0 m, z) at h.1.one, mod-eq_of_lt two))

pub no_value : (n X : ℕ) → polynomial_at n (λ i. 0) X ≡ 0
no_value n X = sum_below-of_zeros n (λ i. 0 * X ^ i) (λ i l. omega arith)
