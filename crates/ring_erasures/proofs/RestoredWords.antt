-- Words restored by the product of their polynomial and the locator: at a root its derivative is the symbol times the
-- locator's derivative (Didier, "Efficient erasure decoding of Reed-Solomon codes", 2009).
use Rattle.std.proofs.Common.{pos, ◌-ℤ◌, slice_index}
use Rattle.num_modular.specs.Callers.{◌≡◌, ℕ, suc, ◌+◌, ◌-◌, ◌*◌, ◌%◌, ◌<◌, ◌≤◌, ◌↔◌, ap, sym, ◌∙◌, arith, refl, inl}
use Rattle.num_modular.specs.Callers.{inr, List, length, mod-eq_of_lt, same_coefficients, has_product}
use Rattle.num_modular.specs.Congruence.{Congruent}
use Rattle.num_modular.specs.Inverses.{IsInverse, HasInverse}
use Rattle.num_modular.specs.NumberLaws.{mod_of_eq, mod_sym, mod_trans, mod_add, mod_mul, mod_refl}
use Rattle.num_modular.specs.Polynomials.{polynomial_at, HaveUnitDifferences}
use Rattle.num_modular.specs.PolynomialLaws.{polynomial-congruent}
use Rattle.num_modular.specs.ProductLaws.{product-same}
use Rattle.num_modular.specs.Residues.{residue}
use Rattle.ring_codes.specs.Erasure.{IsEncoding, IsErasureCodeword}
use Rattle.ring_codes.proofs.Congruences.{mod_of_combination, mod_times, mod_of_residue, mod_of_inverse}
use Rattle.ring_codes.proofs.Counts.{fit_front}
use Rattle.ring_codes.proofs.NearestWords.{unit_alike}
use Rattle.ring_codes.specs.Roots.{product_of_differences, HasRoots}
use Rattle.ring_codes.proofs.Roots.{constant_value, longer_value}
use Rattle.ring_codes.proofs.NewtonForms.{no_difference, product-none}
use Rattle.ring_codes.proofs.Singleton.{value_or_none}
use Rattle.ring_erasures.specs.Erasures.{AreErased, root_weight, AreFactors, IsRestorable, AgreeAtKept}
use Rattle.ring_erasures.specs.Erasures.{AreKeptProducts, IsScattered, derivative}
use Rattle.ring_erasures.proofs.Derivatives.{coefficients_with_roots, rooted_value, derivative_at_root}
use Rattle.ring_erasures.proofs.Derivatives.{divided_by_roots, factor_cancels}
use Rattle.ring_erasures.proofs.Derivatives.{weight_unit}
use Rattle.ring_erasures.proofs.ErasedPlaces.{lost_points_fit}

-- the points at the lost places
abbrev at_lost : (ℕ → ℕ) → List ℕ → ℕ → ℕ
at_lost x lost l = x (slice_index lost l)

-- of a polynomial p with s coefficients that is f times the locator at n points, the derivative's values v at the roots
computed_derivative : (m k n s l : ℕ) (x f p v : ℕ → ℕ) (lost : List ℕ) → 0 < m → HaveUnitDifferences m n x
    → AreErased k n lost → k + length lost ≤ s → s ≤ n → ((j : ℕ) → j < n → Congruent m (polynomial_at s p (x j))
    (polynomial_at k f (x j) * product_of_differences m (length lost) (at_lost x lost) (x j)))
    → IsEncoding m (s - 1) n x (derivative p) v → l < length lost
    → Congruent m (v (slice_index lost l))
    (polynomial_at k f (at_lost x lost l) * root_weight m (length lost) (at_lost x lost) l)
computed_derivative m k n s l x f p v lost positive fit erased long short is values within =
    let c : ℕ = length lost in let z = at_lost x lost in let P = coefficients_with_roots m k c z f in
    let same = same_coefficients m s p P x (fit_front m n s x short fit) (λ j b.
    mod_trans (is j (omega arith)) (mod_sym (rooted_value m k c s (x j) z f positive long))) in
    mod_trans (mod_of_residue (values.symbol _ (erased.places.within l within)))
    (mod_trans (polynomial-congruent (s - 1) (derivative p) (derivative P) (z l) (z l)
    (λ i b. mod_times (suc i) (same (suc i) (omega arith))) (mod_refl (z l)))
    (derivative_at_root m k c (s - 1) l z f positive within (omega arith)))

-- symbols y, factors u of the points, and the products of the symbols that are left
module _ (m k n : ℕ) (x y u products : ℕ → ℕ) (lost : List ℕ) (positive : 0 < m)
    (fit : HaveUnitDifferences m n x) (erased : AreErased k n lost) (factors : AreFactors m n x lost u)
    (are : AreKeptProducts m n lost y u products) where
  -- if the symbols that are left are those of f, the products are the values of f times the locator
  products_of_word : (f : ℕ → ℕ) (j : ℕ) → AgreeAtKept n lost y (λ i. polynomial_at k f (x i) % m) → j < n
      → Congruent m (products j) (polynomial_at k f (x j) * product_of_differences m (length lost) (at_lost x lost)
      (x j))
  products_of_word f j symbols within = elim (value_or_none (length lost) j (slice_index lost)) [
    | inl (l, b, at) ↦
        let z = at_lost x lost in
        let root = product-none (length lost) l (λ j. residue m (pos (z l) -ℤ pos (z j))) b (no_difference m (z l)) in
        rw (← at) (mod_of_eq (omega (arith, are.zeros l b, ap (λ v. polynomial_at k f (z l) * v) root)))
    | inr kept ↦ mod_of_combination (mod_add (mod_of_residue (are.each j within kept))
        (mod_add (mod_times (u j) (mod_of_residue (symbols j within kept)))
        (mod_times (polynomial_at k f (x j)) (mod_of_residue (factors.kept j within kept))))) (omega arith)
  ]

  -- the word w whose lost symbols are the values v of the derivative times their factors is that of f
  pub restored_word : (f p v w : ℕ → ℕ) → AgreeAtKept n lost y (λ i. polynomial_at k f (x i) % m)
      → IsEncoding m (k + length lost) n x p products → IsEncoding m (k + length lost - 1) n x (derivative p) v
      → IsScattered (length lost) lost (λ l. (v (slice_index lost l) * u (slice_index lost l)) % m) y w
      → IsEncoding m k n x f w
  restored_word f p v w symbols encoding values written = record {
    symbol = λ i b. elim (value_or_none (length lost) i (slice_index lost)) [
      | inl (l, less, at) ↦
          let a : ℕ = slice_index lost l in let F : ℕ = polynomial_at k f (x a) in
          let root = computed_derivative m k n (k + length lost) l x f p v lost positive fit erased (omega arith)
          erased.enough (λ j d. mod_trans (mod_sym (mod_of_residue (encoding.symbol j d)))
          (products_of_word f j symbols d)) values less in
          let same : Congruent m (v a * u a) F = mod_of_combination
          (mod_add (mod_times (u a) root) (mod_times F (mod_of_inverse (factors.erased l less)))) (omega arith) in
          rw (← at) (written.there l less ∙ same.same)
      | inr left ↦ written.kept i left ∙ symbols i b left
    ];
  }

  -- so the products tell whether a word of the code has the symbols that are left: that of their message by the locator
  pub products_tell : ((i : ℕ) → i < n → y i < m)
      → IsErasureCodeword m (k + length lost) n x products ↔ IsRestorable m k n x lost y
  products_tell below = (
    λ (p, encoding).
        let by = divided_by_roots m k (length lost) (at_lost x lost) p positive
        (lost_points_fit m k n x lost erased fit) (λ l b.
        mod_trans (mod_sym (mod_of_residue (encoding.symbol _ (erased.places.within l b)))) (mod_of_eq (are.zeros l b)))
        in (
          (λ i. polynomial_at k by.0 (x i) % m),
          (by.0, record { symbol = λ i l. refl }),
          λ i b kept.
              let unit = has_product m (length lost) (λ l. residue m (pos (x i) -ℤ pos (at_lost x lost l))) positive
              (λ l d. fit.unit i (slice_index lost l) b (erased.places.within l d) (λ e. kept l d (sym e))) in
              sym (mod-eq_of_lt (below i b)) ∙ (factor_cancels {v = polynomial_at k by.0 (x i)} unit (mod_of_combination
              (mod_add (mod_sym (mod_of_residue (are.each i b kept))) (mod_add (mod_of_residue (encoding.symbol i b))
              (mod_add (by.1 (x i)) (mod_times (y i) (mod_sym (mod_of_residue (factors.kept i b kept)))))))
              (omega arith))).same,
        ),
    λ (word, (f, codeword), agree). (
      coefficients_with_roots m k (length lost) (at_lost x lost) f,
      record {
        symbol = λ j b. sym (mod-eq_of_lt (are.below j b))
            ∙ (mod_trans (products_of_word f j (λ i b kept. agree i b kept ∙ codeword.symbol i b) b) (mod_sym
            (rooted_value m k (length lost) (k + length lost) (x j) (at_lost x lost) f positive (omega arith)))).same;
      },
    ),
  )

-- the locator's coefficients e, and the values v of its derivative
module _ (m n : ℕ) (x e v : ℕ → ℕ) (lost : List ℕ) (positive : 0 < m) (fit : HaveUnitDifferences m n x)
    (erased : AreErased 1 n lost)
    (is : (a : ℕ) → Congruent m (polynomial_at n e a) (product_of_differences m (length lost) (at_lost x lost) a))
    (values : IsEncoding m (n - 1) n x (derivative e) v) where
  -- the values at the lost places are the roots' weights, and have inverses
  pub lost_values_unit : (l : ℕ) → l < length lost → Congruent m (v (slice_index lost l))
      (root_weight m (length lost) (at_lost x lost) l) × HasInverse m (v (slice_index lost l))
  lost_values_unit l within =
      let c : ℕ = length lost in let z = at_lost x lost in let one = (λ (X : ℕ). constant_value X (λ i. 1)) in
      let root = computed_derivative m 1 n n l x (λ i. 1) e v lost positive fit erased erased.enough (omega arith)
      (λ j b. mod_of_combination (is (x j)) (omega (
        arith,
        ap (λ v. v * product_of_differences m c z (x j))
            (one (x j)),
      )))
      values within in
      let here : Congruent m (v (slice_index lost l)) (root_weight m c z l) =
      mod_of_combination root (omega (arith, ap (λ v. v * root_weight m c z l) (one (z l)))) in
      let unit = weight_unit m c l z positive (lost_points_fit m 1 n x lost erased fit) within in
      (here, unit_alike m _ _ (mod_sym here) unit)

  -- so the locator's values, with the inverses u of those at the lost places, are the factors
  pub factors_are : (u first factors : ℕ → ℕ) → IsEncoding m n n x e first
      → ((l : ℕ) → l < length lost → IsInverse m (v (slice_index lost l)) (u l))
      → IsScattered (length lost) lost u first factors → AreFactors m n x lost factors
  factors_are u first factors encoding inverses written = record {
    kept = λ i b left. written.kept i left ∙ encoding.symbol i b ∙ (is (x i)).same;
    erased = λ l b. rw (written.there l b) (record {
      below = (inverses l b).below;
      one = (mod_mul (mod_sym (lost_values_unit l b).0) (mod_refl (u l))).same ∙ (inverses l b).one;
    });
  }

-- the values of a polynomial with copied roots, of which n coefficients are listed
pub values_of_roots : (m n b c : ℕ) (y z e : ℕ → ℕ) → b ≡ c → c < n → ((l : ℕ) → l < c → y l ≡ z l) → HasRoots m b y e
    → ((j : ℕ) → b < j → e j ≡ 0) → (a : ℕ) → Congruent m (polynomial_at n e a) (product_of_differences m c z a)
values_of_roots m n b c y z e count room same roots behind a =
    let short = longer_value (c + 1) n a e (omega (arith, room)) (λ i l. behind i (omega (arith, l, count))) in
    let alike = product-same c (λ j. residue m (pos a -ℤ pos (y j))) (λ j. residue m (pos a -ℤ pos (z j)))
    (λ j l. rw (same j l) refl) in
    mod_of_combination (rw count at (roots.value a)) (omega (arith, short, alike))
