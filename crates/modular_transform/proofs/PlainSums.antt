-- The sums of the definitions, term by term modulo m.
use Rattle.std.proofs.Common.{◌↔◌, ◌≡◌, ◌≢◌, ℕ, ◌+◌, ◌*◌, ◌%◌, ◌/◌, ◌^◌, IsTrue, nat_eq, sym, ◌∙◌, ap, arith}
use Rattle.std.proofs.lemmas.Bool.Decides.{nat_tests}
use Rattle.std.proofs.lemmas.Nat.{pow-add}
use Rattle.std.proofs.Math.Nat.{pow-zero, zero-mod}
use Rattle.std.specs.Int.{IsPowerOfTwo}
use Rattle.modular_word.specs.Congruence.{Congruent}
use Rattle.modular_word.specs.Sums.{sum_below}
use Rattle.modular_word.proofs.Congruence.{mod_of_eq, mod_refl, mod_trans, mod_add, mod_mul, residue_of}
use Rattle.modular_word.proofs.Sums.{sum_below-zero, sum_below-suc}
use Rattle.modular_transform.specs.Transforms.{Suits}
use Rattle.modular_transform.proofs.PowersOfTwo.{beyond_one}

-- no term
pub empty_sum_residue_is_zero : (m : ℕ) (f : ℕ → ℕ) → 0 ≡ sum_below 0 f % m
empty_sum_residue_is_zero m f = sym (ap (λ v. v % m) (sum_below-zero f) ∙ zero-mod m)

-- one term more
pub sum_residue_of_next_term : (m i s t : ℕ) (f : ℕ → ℕ) → s ≡ sum_below i f % m → Congruent m t (f i)
    → (s + t) % m ≡ sum_below (i + 1) f % m
sum_residue_of_next_term m i s t f so_far term =
    grind (arith, (mod_add (mod_trans (mod_of_eq so_far) (residue_of (sum_below i f))) term).same, sum_below-suc i f)

-- the power of the first term, and of the next
pub term_power_first : (m g j one : ℕ) → one ≡ 1 % m → Congruent m one (g ^ (0 * j))
term_power_first m g j one is = grind (arith, mod_trans, mod_of_eq, residue_of, pow-zero)

pub term_power_next : (m g i j p step q : ℕ) → Congruent m p (g ^ (i * j)) → step ≡ g ^ j % m → q ≡ p * step % m
    → Congruent m q (g ^ ((i + 1) * j))
term_power_next m g i j p step q power is_step is_q = search (arith, mod_trans, mod_of_eq, residue_of, mod_mul, pow-add)

test_of_zero : (a : ℕ) → IsTrue (nat_eq a 0) ↔ (a ≡ 0)
test_of_zero a = (λ (h : IsTrue (nat_eq a 0)). grind (arith, nat_tests, h), λ (e : a ≡ 0). grind (arith, nat_tests, e))

-- the power to the half of n, and 1
pub suits_by_power : (m g n p : ℕ) → IsPowerOfTwo n → n ≢ 1 → p ≡ g ^ (n / 2) % m
    → IsTrue (nat_eq ((p + 1) % m) 0) ↔ Suits m g n
suits_by_power m g n p power other is =
    let same : (p + 1) % m ≡ (g ^ (n / 2) + 1) % m =
    (mod_add (mod_trans (mod_of_eq is) (residue_of (g ^ (n / 2)))) (mod_refl 1)).same in
    let test = test_of_zero ((p + 1) % m) in (
      λ (h : IsTrue (nat_eq ((p + 1) % m) 0)). record { power_of_two = power; half_turn = λ l. sym same ∙ test.0 h },
      λ (suits : Suits m g n). test.1 (same ∙ suits.half_turn (beyond_one n power other)),
    )
