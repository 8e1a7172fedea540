-- Roots by powers of small numbers.
use Rattle.std.proofs.Common.{◌≡◌, ℕ, suc, zero, ◌+◌, ◌-◌, ◌/◌, ◌%◌, ◌^◌, ◌<◌, neg_ℤ, pos, sym, ◌∙◌, ap, refl, arith}
use Rattle.std.proofs.Math.Nat.{mod-eq_of_lt, div-div-eq-div-mul, add-mod}
use Rattle.std.proofs.lemmas.Nat.{pow-add, pow-mod}
use Rattle.modular_word.specs.Residues.{residue}
use Rattle.modular_word.proofs.ResidueLemmas.{residue_neg}

-- the residue of -1
pub residue_of_minus_one : (m : ℕ) → 0 < m → residue m (neg_ℤ (pos (1 % m))) ≡ m - 1
residue_of_minus_one zero some = absurd (omega (arith, some))
residue_of_minus_one (suc zero) some = refl
residue_of_minus_one (suc (suc k)) some = omega (arith, mod-eq_of_lt, residue_neg)

-- half of what is left after z halvings
pub halved_once_more : (e x z : ℕ) → x ≡ e / 2 ^ z → x / 2 ≡ e / 2 ^ (z + 1)
halved_once_more e x z is = grind (arith, pow-add, div-div-eq-div-mul)

-- one more in a sum of remainders
pub remainder_of_successor : (m x v w : ℕ) → v ≡ x % m → w ≡ 1 % m → (v + w) % m ≡ (x + 1) % m
remainder_of_successor m x v w is one = ap (λ a. (a + w) % m) is ∙ ap (λ b. (x % m + b) % m) one ∙ sym (add-mod x 1 m)

-- the power of a remainder
pub power_of_remainder_congruent : (m x e v w k : ℕ) → v ≡ x % m → k ≡ e → w ≡ v ^ k % m → w ≡ x ^ e % m
power_of_remainder_congruent m x e v w k is exponent power =
    power ∙ ap (λ a. a ^ k % m) is ∙ pow-mod x k m ∙ ap (λ i. x ^ i % m) exponent
