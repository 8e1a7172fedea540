-- The errors at given points: by the quotients of the product of X - x by each X - x.
use Rattle.std.proofs.Common.{◌≡◌, ◌≢◌, ℕ, zero, suc, ◌+◌, ◌-◌, ◌*◌, ◌%◌, ◌<◌, pos, ◌-ℤ◌, ap, sym, ◌∙◌, arith, inl}
use Rattle.std.proofs.Common.{inr, refl, ◌↔◌, add-one}
use Rattle.std.proofs.lemmas.Bool.{cases_eq}
use Rattle.num_modular.specs.Callers.{same_coefficients, has_both}
use Rattle.num_modular.specs.Congruence.{Congruent}
use Rattle.num_modular.specs.Inverses.{IsInverse, HasInverse}
use Rattle.num_modular.specs.NumberLaws.{mod_of_eq, mod_refl, residue_of, mod_sym, mod_trans, mod_add, mod_mul}
use Rattle.num_modular.specs.NumberLaws.{sum_below-same}
use Rattle.num_modular.specs.Polynomials.{polynomial_at, HaveUnitDifferences}
use Rattle.num_modular.specs.PolynomialLaws.{polynomial-first, polynomial-same}
use Rattle.num_modular.specs.Residues.{residue}
use Rattle.num_modular.specs.Sums.{sum_below}
use Rattle.ring_codes.specs.Prepared.{product_but}
use Rattle.ring_codes.proofs.Lagrange.{none_at, all_from_fit, fit_from_all}
use Rattle.ring_codes.proofs.NewtonForms.{one_expanded, no_difference, product-none, has_of_residue, has_to_residue}
use Rattle.ring_decoder.specs.PowerSums.{ArePowerSums}
use Rattle.ring_codes.specs.Roots.{HasRoots}
use Rattle.ring_decoder.proofs.SyndromeRoots.{product_monic}
use Rattle.ring_codes.proofs.Roots.{constant_value}
use Rattle.num_modular.specs.NumberLaws.{sum_below-reversed}
use Rattle.ring_decoder.proofs.SyndromeSums.{weight_alone}
use Rattle.ring_codes.proofs.Congruences.{mod_of_combination, mod_of_inverse, mod_of_residue, mod_times}
use Rattle.ring_decoder.proofs.LocatorSums.{factor_none}
use Rattle.std.proofs.Math.Nat.{zero-add, add-zero}
use Rattle.ring_codes.proofs.Roots.{scaled_polynomial}

-- two polynomials with d + 1 coefficients that are 0 at all but one of d + 1 points, and whose highest coefficients are
-- 1, have the same value there
same_at_point : (m d j : ℕ) (x f g : ℕ → ℕ) → HaveUnitDifferences m (suc d) x
    → ((i : ℕ) → i < suc d → i ≢ j → Congruent m (polynomial_at (suc d) f (x i)) 0)
    → ((i : ℕ) → i < suc d → i ≢ j → Congruent m (polynomial_at (suc d) g (x i)) 0)
    → Congruent m (f d) 1 → Congruent m (g d) 1
    → Congruent m (polynomial_at (suc d) f (x j)) (polynomial_at (suc d) g (x j))
same_at_point m d j x f g fit none_f none_g one_f one_g =
    let n : ℕ = suc d in let F : ℕ = polynomial_at n f (x j) in let G : ℕ = polynomial_at n g (x j) in
    let last = same_coefficients m n (λ l. G * f l) (λ l. F * g l) x fit (λ i l.
    rw (scaled_polynomial n G f (x i), scaled_polynomial n F g (x i)) (elim (cases_eq i j) [
      | inl e ↦ rw e (mod_of_eq (omega arith))
      | inr other ↦ mod_of_combination
          (mod_add (mod_times G (none_f i l other)) (mod_times F (mod_sym (none_g i l other)))) (omega arith)
    ])) d (omega arith) in
    mod_of_combination (mod_add (mod_sym last) (mod_add (mod_times F (mod_sym one_g)) (mod_times G one_f)))
    (omega arith)

-- what Horner's rule at a finds from coefficient l on of a polynomial of degree q; from 1 on these are the coefficients
-- of its quotient by X - a
abbrev pub from_coefficient : ℕ → (ℕ → ℕ) → ℕ → ℕ → ℕ
from_coefficient q f a l = polynomial_at (q + 1 - l) (λ i. f (l + i)) a

next_coefficient : (q l a : ℕ) (f : ℕ → ℕ) → l < q → f l + a * from_coefficient q f a (suc l) ≡ from_coefficient q f a l
next_coefficient q l a f b =
    let count : q + 1 - l ≡ suc (q + 1 - suc l) = omega arith in
    let rest = polynomial-same (q + 1 - suc l) (λ i. f (l + suc i)) (λ i. f (suc l + i)) a
    (λ i d. ap f (let e : l + suc i ≡ suc l + i = omega arith in e)) in
    rw count (omega (
      arith,
      polynomial-first (q + 1 - suc l) (λ i. f (l + i)) a,
      ap f (add-zero l),
      ap (λ v. a * v)
          rest,
    ))

last_coefficient : (q a : ℕ) (f : ℕ → ℕ) → from_coefficient q f a q ≡ f q
last_coefficient q a f =
    let count : q + 1 - q ≡ suc 0 = omega arith in rw (count, constant_value a (λ i. f (q + i))) (ap f (add-zero q))

all_coefficients : (q a : ℕ) (f : ℕ → ℕ) → from_coefficient q f a 0 ≡ polynomial_at (suc q) f a
all_coefficients q a f =
    let count : q + 1 - 0 ≡ suc q = omega arith in
    ap (λ n. polynomial_at n (λ i. f (0 + i)) a) count
    ∙ polynomial-same (suc q) (λ i. f (0 + i)) f a (λ i l. ap f (zero-add i))

module _ {m d : ℕ} {x f : ℕ → ℕ} (positive : 0 < m) (fit : HaveUnitDifferences m (suc d) x)
    (roots : HasRoots m (suc d) x f) (j : ℕ) (below : j < suc d) where
  -- the quotient by X - x j of the product of X - x
  abbrev quotient : ℕ → ℕ
  quotient l = from_coefficient (suc d) f (x j) (suc l)

  -- it is 0 at the other points
  quotient_none : (i : ℕ) → i < suc d → i ≢ j → Congruent m (polynomial_at (suc d) quotient (x i)) 0
  quotient_none i within other =
      let q : ℕ = suc d in let s : ℕ → ℕ = from_coefficient q f (x j) in
      let Q : ℕ = polynomial_at q quotient (x i) in let u : ℕ = residue m (pos (x i) -ℤ pos (x j)) in
      let root : (k : ℕ) → k < q → Congruent m (polynomial_at (suc q) f (x k)) 0 =
      λ k b. rw (← add-one q) (mod_trans (roots.value (x k))
      (mod_of_eq (product-none q k (λ l. residue m (pos (x k) -ℤ pos (x l))) b (no_difference m (x k))))) in
      let divided : Congruent m (polynomial_at (suc q) f (x i)) (s 0 + u * Q) =
      one_expanded m q (x j) (x i) f s positive (λ l b. mod_of_eq (next_coefficient q l (x j) f b))
      (sym (last_coefficient q (x j) f)) in
      let remainder : Congruent m (s 0) 0 = mod_trans (mod_of_eq (all_coefficients q (x j) f)) (root j below) in
      factor_none m Q u (fit.unit i j within below other)
      (mod_of_combination (mod_add (mod_sym remainder) (mod_add (mod_sym divided) (root i within))) (omega arith))

  -- its value at its own point is the product of the differences from the others
  quotient_own : Congruent m (polynomial_at (suc d) quotient (x j)) (product_but m (suc d) x j (x j))
  quotient_own =
      let p = product_monic m d j x positive (omega arith) in
      mod_trans (same_at_point m d j x quotient p.coefficient fit quotient_none
      (λ i l other. mod_trans (p.value (x i)) (mod_of_eq (none_at m (suc d) j i x below l other)))
      (mod_trans (mod_of_eq (last_coefficient (suc d) (x j) f)) roots.highest) (mod_of_eq p.highest)) (p.value (x j))

  -- the sum of the syndromes, each times its coefficient of the quotient, the highest first
  quotient_sum_is : {w s : ℕ → ℕ} → ArePowerSums m (suc d) (suc d) x w s
      → Congruent m (sum_below (suc d) (λ k. polynomial_at (k + 1) (λ i. f (suc d + 1 - (k + 1) + i)) (x j)
      * s (suc d - 1 - k))) (w j * product_but m (suc d) x j (x j))
  quotient_sum_is {w} {s} are =
      let q : ℕ = suc d in let G : ℕ → ℕ = λ l. quotient l * s l in
      let each : (k : ℕ) → k < q
      → polynomial_at (k + 1) (λ i. f (q + 1 - (k + 1) + i)) (x j) * s (q - 1 - k) ≡ G (q - 1 - k) =
      λ k l.
      let count : k + 1 ≡ q + 1 - suc (q - 1 - k) = omega arith in
      let from : q + 1 - (k + 1) ≡ suc (q - 1 - k) = omega arith in rw (← count, ← from) refl in
      mod_trans (mod_of_eq (sum_below-same q _ (λ k. G (q - 1 - k)) each ∙ sum_below-reversed q G))
      (mod_trans (weight_alone m q j x w s quotient are below quotient_none) (mod_mul (mod_refl (w j)) quotient_own))

-- the error at point j: the sum, divided by the weight and the differences
pub error_found : (m q j sum divisor inverse error : ℕ) (x f w e s : ℕ → ℕ) → 0 < m → HaveUnitDifferences m q x
    → HasRoots m q x f → j < q → ArePowerSums m q q x (λ j. w j * e j) s
    → sum ≡ sum_below q (λ k. polynomial_at (k + 1) (λ i. f (q + 1 - (k + 1) + i)) (x j) * s (q - 1 - k)) % m
    → divisor ≡ (product_but m q x j (x j) % m * w j) % m → IsInverse m divisor inverse
    → error ≡ (sum * inverse) % m → error ≡ e j % m
error_found m zero j sum divisor inverse error x f w e s positive fit roots below are is_sum is_divisor inverts is =
    absurd (omega arith)
error_found m (suc d) j sum divisor inverse error x f w e s positive fit roots below are is_sum is_divisor inverts is =
    let P : ℕ = product_but m (suc d) x j (x j) in
    let divisor_is : Congruent m divisor (P * w j) =
    mod_trans (mod_of_residue is_divisor) (mod_mul (residue_of P) (mod_refl (w j))) in
    let sum_is : Congruent m sum (w j * e j * P) =
    mod_trans (mod_of_residue is_sum) (quotient_sum_is positive fit roots j below are) in
    is ∙ (mod_of_combination (mod_add (mod_times inverse sum_is)
    (mod_add (mod_times (e j * inverse) (mod_sym divisor_is))
    (mod_times (e j) (mod_of_inverse inverts)))) (omega arith)).same

-- the divisors have inverses exactly where the points fit and the weights have inverses
pub divisors_tell : (m q : ℕ) (x w d : ℕ → ℕ) → 0 < m
    → ((j : ℕ) → j < q → d j ≡ (product_but m q x j (x j) % m * w j) % m)
    → (HaveUnitDifferences m q x × ((j : ℕ) → j < q → HasInverse m (w j))) ↔ ((j : ℕ) → j < q → HasInverse m (d j))
divisors_tell m q x w d positive each =
    let P : ℕ → ℕ = λ j. product_but m q x j (x j) in
    let both : ((j : ℕ) → j < q → HasInverse m (d j)) → (j : ℕ) → j < q → HasInverse m (P j % m) × HasInverse m (w j) =
    λ all j l. (has_both m (P j % m) (w j)).0 (has_of_residue m (P j % m * w j) (d j) (each j l) (all j l)) in (
      (λ (fit, units) j l. has_to_residue m (P j % m * w j) (d j) (each j l)
          ((has_both m (P j % m) (w j)).1 (
            has_to_residue m (P j) (P j % m) refl (all_from_fit m q x positive fit j l),
            units j l,
          ))),
      λ all. (
        fit_from_all m q x (λ j l. has_of_residue m (P j) (P j % m) refl (both all j l).0),
        λ j l. (both all j l).1,
      ),
    )
