-- Residues of sums and of negatives.
use Rattle.std.proofs.Common.{◌≡◌, ℕ, ◌+◌, ◌-◌, ◌*◌, ◌/◌, ◌%◌, ◌<◌, ◌≤◌, pos}
use Rattle.std.proofs.Common.{negsuc, neg_ℤ, ◌-ℤ◌, sym, ap, ◌∙◌, arith, ⊎_elim}
use Rattle.std.proofs.Math.Nat.{add-mod_right, mod-mod, mod_self, mod-eq_of_lt, add-mul-mod_self_left}
use Rattle.std.proofs.lemmas.Bool.{cases_lt}
use Rattle.std.proofs.lemmas.Int.{ints}
use Rattle.modular_word.specs.Residues.{residue}
use Rattle.modular_word.proofs.ResidueLemmas.{residue_neg}

-- the residue of a negative, by the remainder of the number
pub neg_value : (m n : ℕ) → 0 < m → residue m (neg_ℤ (pos n)) ≡ (m - n % m) % m
neg_value m n h =
    ⊎_elim
    (λ (l : 0 < n).
    let e : neg_ℤ (pos n) ≡ negsuc (n - 1) = omega (arith, ints) in
    let r = (n - 1) % m in
    let whole : (r + 1) + m * ((n - 1) / m) ≡ n = omega arith in
    let rest : n % m ≡ (r + 1) % m = ap (λ v. v % m) (sym whole) ∙ add-mul-mod_self_left (r + 1) _ ((n - 1) / m) in
    ap (residue m) e ∙ (grind (arith, mod-eq_of_lt, mod_self)))
    (λ (l : n ≤ 0).
    grind (arith, mod-eq_of_lt, neg_ℤ, mod_self))
    (cases_lt _ _)

pub neg_of_some : (m a d : ℕ) → a < m → 0 < a → d + a ≡ m → d ≡ residue m (neg_ℤ (pos a))
neg_of_some m a d l s e = grind (arith, neg_value, mod-eq_of_lt)

-- a number and its remainder have negatives of one residue
pub neg_of_rest : (m n r : ℕ) → 0 < m → r ≡ n % m → residue m (neg_ℤ (pos r)) ≡ residue m (neg_ℤ (pos n))
neg_of_rest m n r h e = grind (arith, neg_value, mod-mod)

-- a difference below 0 is the negative of the difference the other way
pub sub_of_less : (m a b d : ℕ) → d + a ≡ b → residue m (neg_ℤ (pos d)) ≡ residue m (pos a -ℤ pos b)
sub_of_less m a b d e = grind (arith, neg_ℤ, ints)

-- where a is below b, m less the difference is left
pub residue_of_negative_difference : (m a b d r : ℕ) → b < m → a < b → d + a ≡ b → r + d ≡ m
    → r ≡ residue m (pos a -ℤ pos b)
residue_of_negative_difference m a b d r h k e f =
    (omega arith) ∙ sym (residue_neg _ _ (omega arith) (omega arith)) ∙ sub_of_less _ _ _ _ e

-- elsewhere the difference itself
pub difference_above : (m a b r : ℕ) → a < m → r + b ≡ a → r ≡ residue m (pos a -ℤ pos b)
difference_above m a b r h e = grind (arith, ints, mod-eq_of_lt)

-- a number below twice a bound, less the bound
pub subtracted_once_is_remainder : (m x r : ℕ) → m ≤ x → x < 2 * m → r + m ≡ x → r ≡ x % m
subtracted_once_is_remainder m x r low high e = grind (arith, add-mod_right, mod-eq_of_lt)

-- what wraps around when a bound is taken from a word
pub record IsWrapped (m x r : ℕ) : Type 0 where
  pub taken : r < x → r + m ≡ x
  pub left : x ≤ r → x < m

pub wrapped_difference : (b m x r : ℕ) → m < b → r < b → x < 2 * m → (r + m) % b ≡ x
    → IsWrapped m x r
wrapped_difference b m x r m_fits r_fits below e = grind (arith, mod-eq_of_lt, add-mod_right)

-- a difference below 0 wraps around the bound
pub negative_difference_wraps : (b m x r : ℕ) → m < b → r < b → x < m → (r + m) % b ≡ x → r + m ≡ x + b
negative_difference_wraps b m x r m_fits r_fits below e = grind (arith, mod-eq_of_lt, add-mod_right)

-- a difference that isn't below 0 doesn't
pub nonnegative_difference_is_exact : (b m x r : ℕ) → x < b → r < b → m ≤ x → (r + m) % b ≡ x → r + m ≡ x
nonnegative_difference_is_exact b m x r x_fits r_fits at_most e = grind (arith, mod-eq_of_lt, add-mod_right)
