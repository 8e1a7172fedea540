-- Polynomials with given roots and the highest coefficient 1.
use Rattle.std.proofs.Common.{◌≡◌, ℕ, zero, suc, ◌+◌, ◌-◌, ◌*◌, ◌^◌, ◌<◌, ◌≤◌, pos, ◌-ℤ◌, ap, sym, ◌∙◌, arith, refl}
use Rattle.num_modular.specs.Congruence.{Congruent}
use Rattle.num_modular.specs.NumberLaws.{mod_of_eq, mod_refl, mod_sym, mod_trans, mod_add, mod_mul, sum_below-suc}
use Rattle.num_modular.specs.NumberLaws.{sum_below-zero, sum_below-congruent}
use Rattle.num_modular.specs.Polynomials.{polynomial_at}
use Rattle.num_modular.specs.Products.{product_below}
use Rattle.num_modular.specs.Residues.{residue}
use Rattle.num_modular.specs.Sums.{sum_below}
use Rattle.ring_codes.specs.Shifts.{shifted}
use Rattle.ring_codes.specs.Prepared.{product_but}
use Rattle.ring_codes.proofs.Roots.{constant_value, times_root, times_root_behind, times_root_value}
use Rattle.ring_codes.proofs.NearestWords.{polynomial_value_is_linear, difference_alike, no_value}
use Rattle.ring_codes.proofs.Distances.{extended_sequence, at_end, before_end}
use Rattle.ring_decoder.specs.PowerSums.{ArePowerSums}
use Rattle.ring_codes.specs.Roots.{product_of_differences, HasRoots}
use Rattle.ring_decoder.proofs.SyndromeSums.{combined_power_sums_evaluate_polynomial}
use Rattle.ring_codes.proofs.Congruences.{mod_of_combination, mod_times}

-- a function with the values of a polynomial of degree d modulo m, whose highest coefficient is 1
pub record IsMonic (m d : ℕ) (F : ℕ → ℕ) : Type 0 where
  pub coefficient : ℕ → ℕ
  pub behind : (i : ℕ) → d < i → coefficient i ≡ 0
  pub highest : coefficient d ≡ 1
  pub value : (X : ℕ) → Congruent m (polynomial_at (suc d) coefficient X) (F X)

-- the highest coefficient of X + r times a polynomial
times_root_highest : (d r : ℕ) (h : ℕ → ℕ) → h d ≡ 1 → h (suc d) ≡ 0 → times_root r h (suc d) ≡ 1
unfolding times_root shifted
times_root_highest d r h one none = omega (arith, one, ap (λ v. r * v) none)

-- times X - a
times_difference_is_monic : (m d a : ℕ) (F G : ℕ → ℕ) → 0 < m → ((X : ℕ) → F X * residue m (pos X -ℤ pos a) ≡ G X)
    → IsMonic m d F
    → IsMonic m (suc d) G
times_difference_is_monic m d a F G positive same p =
    let r : ℕ = (m - 1) * a in let none = p.behind (suc d) (omega arith) in
    record {
      coefficient = times_root r p.coefficient;
      behind = λ i l. times_root_behind (suc d) r i p.coefficient (λ j b. p.behind j (omega arith)) (omega arith);
      highest = times_root_highest d r p.coefficient p.highest none;
      value = λ X. rw (← same X)
          (mod_trans (mod_of_eq (omega (arith, times_root_value (suc d) r X p.coefficient none)))
          (mod_mul (p.value X) (mod_sym (difference_alike m X a positive))));
    }

-- products of X - y and X - z
two_products_are_monic : (m b c : ℕ) (y z : ℕ → ℕ) → 0 < m → IsMonic m (b + c) (λ X.
    product_below b (λ l. residue m (pos X -ℤ pos (y l))) * product_below c (λ l. residue m (pos X -ℤ pos (z l))))
unfolding product_below
two_products_are_monic m zero zero y z positive =
    let c : ℕ → ℕ = extended_sequence 0 1 (λ i. 0) in let one : c 0 ≡ 1 = at_end 0 1 (λ i. 0) 0 refl in
    record {
      coefficient = c;
      behind = λ i l. before_end 0 1 (λ i. 0) i (omega arith);
      highest = one;
      value = λ X. mod_of_eq (constant_value X c ∙ one);
    }
two_products_are_monic m zero (suc c) y z positive =
    let count : 0 + suc c ≡ suc (0 + c) = omega arith in
    rw count (times_difference_is_monic m (0 + c) (z c) _ _ positive (λ X. omega arith) (two_products_are_monic m zero c
    y z positive))
two_products_are_monic m (suc b) c y z positive =
    let count : suc b + c ≡ suc (b + c) = omega arith in
    rw count (times_difference_is_monic m (b + c) (y b) _ _ positive (λ X. omega arith) (two_products_are_monic m b c y
    z positive))

-- the product of the differences from all of d + 1 points but number i
pub product_monic : (m d i : ℕ) (x : ℕ → ℕ) → 0 < m → i ≤ d → IsMonic m d (product_but m (suc d) x i)
unfolding product_but
product_monic m d i x positive l =
    let count : i + (suc d - 1 - i) ≡ d = omega arith in
    rw count at (two_products_are_monic m i (suc d - 1 - i) x (λ l. x (suc d - 1 - l)) positive)

-- sums of multiples of n such functions
pub combination_of_monics_is_polynomial : (m d n : ℕ) (v : ℕ → ℕ) (F : ℕ → ℕ → ℕ)
    → ((i : ℕ) → i < n → IsMonic m d (F i))
    → (c : ℕ → ℕ) × (c d ≡ sum_below n v)
    × ((X : ℕ) → Congruent m (polynomial_at (suc d) c X) (sum_below n (λ i. v i * F i X)))
combination_of_monics_is_polynomial m d zero v F each =
    ((λ i. 0), sym (sum_below-zero v), λ X. mod_of_eq (no_value (suc d) X ∙ sym (sum_below-zero _)))
combination_of_monics_is_polynomial m d (suc n) v F each =
    let before = combination_of_monics_is_polynomial m d n v F (λ i l. each i (omega arith)) in let last =
    each n (omega arith) in (
      (λ i. before.0 i + v n * last.coefficient i),
      (omega (arith, before.1, ap (λ w. v n * w) last.highest, sum_below-suc n v)),
      λ X. rw (polynomial_value_is_linear (suc d) before.0 last.coefficient (v n) X, sum_below-suc n (λ i. v i * F i X))
          (mod_add (before.2 X) (mod_mul (mod_refl (v n)) (last.value X))),
    )

-- multiples of power sums by the coefficients of a product of X - z are power sums, with the weights times the products
pub moments_of : (m M c n : ℕ) (z g x w t s : ℕ → ℕ) → HasRoots m c z g → ArePowerSums m (M + c) n x w t
    → ((h : ℕ) → h < M → Congruent m (s h) (sum_below (c + 1) (λ l. g l * t (h + l))))
    → ArePowerSums m M n x (λ i. w i * product_of_differences m c z (x i)) s
moments_of m M c n z g x w t s roots are each = record {
  sum = λ h l. mod_trans (each h l) (mod_trans (combined_power_sums_evaluate_polynomial m (M + c) n (c + 1) h x w t g
      are (omega arith))
      (sum_below-congruent n _ _
      (λ i b. mod_of_combination (mod_times (w i * x i ^ h) (roots.value (x i))) (omega arith))));
}
