-- Lagrange's form: a polynomial with k coefficients by its values at k points that fit.
use Rattle.ring_codes.proofs.Names.{◌≡◌, ◌≢◌, ◌+◌, ◌-◌, ◌*◌, ◌%◌, ◌<◌, ◌-ℤ◌, ◌∙◌, ℕ, zero, suc, pos, ap, sym, arith}
use Rattle.ring_codes.proofs.Names.{inl, inr, mod-eq_of_lt, mul-le-mul_right, ∥∥₁_elim, cases_lt, same_coefficients}
use Rattle.ring_codes.proofs.Names.{Congruent, IsInverse, HasInverse, has_both, has_each, has_product, mod_of_eq}
use Rattle.ring_codes.proofs.Names.{mod_refl, mod_sym, mod_trans, mod_add, mod_mul, sum_below-congruent, polynomial_at}
use Rattle.ring_codes.proofs.Names.{HaveUnitDifferences, polynomial-congruent, residue, single, IsEncoding, difference}
use Rattle.ring_codes.proofs.Names.{AreRows, refl, mul-mod_first, product-more, product-zero}
use Rattle.num_modular.specs.Products.{product_below}
use Rattle.num_modular.specs.Sums.{sum_below}
use Rattle.ring_codes.specs.Prepared.{product_but}
use Rattle.ring_codes.proofs.Distances.{extended_sequence, extended_each}
use Rattle.ring_codes.proofs.NearestWords.{polynomial_value_is_linear, no_value, difference_alike}
use Rattle.ring_codes.proofs.NewtonForms.{no_difference, product-none}
use Rattle.ring_codes.proofs.Roots.{expanded, expanded_behind, constant_one, constant_one_behind, value_expanded}
use Rattle.ring_codes.proofs.Roots.{product_expanded}
use Rattle.ring_codes.proofs.Singleton.{value_or_none}
use Rattle.ring_codes.proofs.Congruences.{mod_of_combination, mod_times, mod_of_residue, mod_of_inverse}
use Rattle.ring_codes.proofs.Congruences.{product-congruent}

-- the coefficients of product_but, and its values
basis : ℕ → ℕ → (ℕ → ℕ) → ℕ → ℕ → ℕ
basis m k x i =
    expanded (k - 1 - i) (λ l. (m - 1) * x (k - 1 - l)) (expanded i (λ l. (m - 1) * x l) constant_one)

basis_value : (m k i X : ℕ) (x : ℕ → ℕ) → 0 < m → i < k
    → Congruent m (polynomial_at k (basis m k x i) X) (product_but m k x i X)
unfolding basis product_but
basis_value m k i X x positive l =
    let r : ℕ → ℕ = λ l. (m - 1) * x l in
    let alike : (n : ℕ) (a : ℕ → ℕ) → Congruent m (product_below n (λ l. X + (m - 1) * a l))
    (product_below n (λ l. residue m (pos X -ℤ pos (a l)))) =
    λ n a. product-congruent m n _ _ (λ l b. mod_sym (difference_alike m X (a l) positive)) in
    rw (
      value_expanded (k - 1 - i) (suc i) k X (λ l. r (k - 1 - l)) (expanded i r constant_one)
          (λ j b. expanded_behind i 1 r constant_one constant_one_behind j (omega (arith, b))) (omega (arith, l)),
      product_expanded i X r,
    )
    (mod_trans (mod_mul (alike (k - 1 - i) (λ l. x (k - 1 - l))) (alike i x)) (mod_of_eq (omega arith)))

-- sums of multiples
sums_value : (k n X : ℕ) (v : ℕ → ℕ) (c : ℕ → ℕ → ℕ)
    → polynomial_at k (λ l. sum_below n (λ i. v i * c i l)) X ≡ sum_below n (λ i. v i * polynomial_at k (c i) X)
unfolding sum_below
sums_value k zero X v c = no_value k X
sums_value k (suc n) X v c =
    polynomial_value_is_linear k (λ l. sum_below n (λ i. v i * c i l)) (c n) (v n) X
    ∙ ap (λ w. w + v n * polynomial_at k (c n) X) (sums_value k n X v c)

-- it is 0 at each other point
pub none_at : (m k i l : ℕ) (x : ℕ → ℕ) → i < k → l < k → l ≢ i → product_but m k x i (x l) ≡ 0
unfolding product_but
none_at m k i l x within below other =
    let f : ℕ → ℕ = λ j. residue m (pos (x l) -ℤ pos (x j)) in
    elim (cases_lt l i) [
      | inl b ↦ rw (product-none i l f b (no_difference m (x l))) (omega arith)
      | inr b ↦
          let back : k - 1 - (k - 1 - l) ≡ l = omega (arith, below) in
          rw (product-none (k - 1 - i) (k - 1 - l) (λ j. f (k - 1 - j)) (omega (arith, below, within, b, other))
          (rw back (no_difference m (x l)))) (omega arith)
    ]

-- the polynomial with the values s at the points, w being the inverses of the products there
abbrev through : ℕ → ℕ → (ℕ → ℕ) → (ℕ → ℕ) → (ℕ → ℕ) → ℕ → ℕ
through m k x w s l = sum_below k (λ i. (s i * w i) * basis m k x i l)

through_value : (m k X : ℕ) (x w s : ℕ → ℕ) → 0 < m
    → Congruent m (polynomial_at k (through m k x w s) X) (sum_below k (λ i. (s i * w i) * product_but m k x i X))
through_value m k X x w s positive =
    mod_trans (mod_of_eq (sums_value k k X (λ i. s i * w i) (basis m k x)))
    (sum_below-congruent k _ _ (λ i l. mod_times (s i * w i) (basis_value m k i X x positive l)))

through_at : (m k l : ℕ) (x w s : ℕ → ℕ) → 0 < m → l < k → IsInverse m (product_but m k x l (x l)) (w l)
    → Congruent m (polynomial_at k (through m k x w s) (x l)) (s l)
through_at m k l x w s positive b inverse =
    let alone = single k l (λ i. (s i * w i) * product_but m k x i (x l)) b
    (λ i d other. rw (none_at m k i l x d b (λ e. other (sym e))) (omega arith)) in
    mod_of_combination (mod_add (through_value m k (x l) x w s positive) (mod_times (s l) (mod_of_inverse inverse)))
    (omega (arith, alone))

-- the sum of the values, each times the inverse w and the product
lagrange_congruent : (m k X : ℕ) (x w c : ℕ → ℕ) → 0 < m → HaveUnitDifferences m k x
    → ((i : ℕ) → i < k → IsInverse m (product_but m k x i (x i)) (w i))
    → Congruent m (sum_below k (λ i. (polynomial_at k c (x i) * w i) * product_but m k x i X))
    (polynomial_at k c X)
lagrange_congruent m k X x w c positive fit inverse =
    let s : ℕ → ℕ = λ i. polynomial_at k c (x i) in
    mod_trans (mod_sym (through_value m k X x w s positive)) (polynomial-congruent k _ c X X
    (same_coefficients m k _ c x fit (λ l b. through_at m k l x w s positive b (inverse l b))) (mod_refl X))

-- the rows
pub rows_from : (m k n : ℕ) (x y w rows : ℕ → ℕ) → 0 < m → HaveUnitDifferences m k x
    → ((i : ℕ) → i < k → IsInverse m (product_but m k x i (x i)) (w i))
    → ((j i : ℕ) → j < n → i < k → Congruent m (rows (j * k + i)) (product_but m k x i (y j) * w i))
    → AreRows m k n x y rows
rows_from m k n x y w rows positive fit inverse each = record {
  value = λ j c l.
      mod_trans (sum_below-congruent k _ _
      (λ i b. mod_of_combination (mod_times (polynomial_at k c (x i)) (each j i l b)) (omega arith)))
      (lagrange_congruent m k (y j) x w c positive fit inverse);
}

-- the product from its parts
pub product_of_parts : (m k i p a b : ℕ) (x : ℕ → ℕ)
    → p ≡ product_below i (λ l. residue m (pos a -ℤ pos (x l))) % m
    → b ≡ product_below (k - 1 - i) (λ l. residue m (pos a -ℤ pos (x (k - 1 - l)))) % m
    → (p * b) % m ≡ product_but m k x i a % m
unfolding product_but product_below
product_of_parts m k i p a b x is_p is_b = (mod_mul (mod_of_residue is_p) (mod_of_residue is_b)).same

-- the two products, where the second has no factor, and with one more
pub products_so_far_none : (m i : ℕ) {a : ℕ} (d g : ℕ → ℕ) → a ≡ product_below i d % m
    → a ≡ (product_below i d * product_below 0 g) % m
products_so_far_none m i d g e = grind (arith, product-zero)

pub products_so_far_more : (m i k : ℕ) {a : ℕ} (d g : ℕ → ℕ) → a ≡ (product_below i d * product_below k g) % m
    → (a * g k) % m ≡ (product_below i d * product_below (k + 1) g) % m
products_so_far_more m i k d g e =
    let p : ℕ = product_below i d in let q : ℕ = product_below k g in
    let same : p * q * g k ≡ p * (q * g k) = omega arith in
    rw (e, mul-mod_first (p * q) (g k) m, product-more g k, same) refl

-- .. and with all points behind
pub product_but_whole : (m n i k : ℕ) {a : ℕ} (x : ℕ → ℕ) → k ≡ n - 1 - i
    → a ≡ (product_below i (difference m x i) * product_below k (λ j. difference m x i (n - 1 - j))) % m
    → a ≡ product_but m n x i (x i) % m
unfolding product_but
product_but_whole m n i k x count e = rw count at e

-- the points fit exactly where the products at them have inverses
pub fit_from_all : (m k : ℕ) (x : ℕ → ℕ) → ((i : ℕ) → i < k → HasInverse m (product_but m k x i (x i)))
    → HaveUnitDifferences m k x
unfolding product_but
fit_from_all m k x each = record {
  unit = λ i j l b other.
      let f : ℕ → ℕ = difference m x i in
      let both = (has_both m (product_below i f) (product_below (k - 1 - i) (λ l. f (k - 1 - l)))).0 (each i l) in
      elim (cases_lt j i) [
        | inl before ↦ has_each m i f both.0 j before
        | inr behind ↦
            let back : k - 1 - (k - 1 - j) ≡ j = omega (arith, b) in
            rw back at
            (has_each m (k - 1 - i) (λ l. f (k - 1 - l)) both.1 (k - 1 - j) (omega (arith, b, l, behind, other)))
      ];
}

pub all_from_fit : (m k : ℕ) (x : ℕ → ℕ) → 0 < m → HaveUnitDifferences m k x
    → (i : ℕ) → i < k → HasInverse m (product_but m k x i (x i))
unfolding product_but
all_from_fit m k x positive fit i l = (has_both _ _ _).1 (
  has_product _ _ _ positive (λ j b. fit.unit i j l (omega arith) (omega arith)),
  has_product _ _ _ positive (λ j b. fit.unit i (k - 1 - j) l (omega arith) (omega arith)),
)

-- symbols at wanted points, from the symbols at the known points
pub value_from_row : (m k n j : ℕ) (x y rows symbols c : ℕ → ℕ) → AreRows m k n x y rows → IsEncoding m k k x c symbols
    → j < n → sum_below k (λ i. rows (j * k + i) * symbols i) % m ≡ polynomial_at k c (y j) % m
value_from_row m k n j x y rows symbols c are is l =
    (mod_trans (sum_below-congruent k _ _ (λ i b. mod_times (rows (j * k + i)) (mod_of_residue (is.symbol i b))))
    (are.value j c l)).same

-- the inverses of the first d numbers
inverses_below : (m d : ℕ) (f : ℕ → ℕ) → ((i : ℕ) → i < d → HasInverse m (f i))
    → (u : ℕ → ℕ) × ((i : ℕ) → i < d → IsInverse m (f i) (u i))
inverses_below m zero f each = ((λ i. 0), λ i l. absurd (omega arith))
inverses_below m (suc d) f each =
    let (u, before) = inverses_below m d f (λ i l. each i (omega arith)) in
    let (last, is) = each d (omega arith) in
    (extended_sequence d last u, λ i l. extended_each d last u (λ i v. IsInverse m (f i) v) before is i (omega arith))

-- any symbols at the known points are of a message
pub message_of : (m k : ℕ) (x symbols : ℕ → ℕ) → 0 < m → HaveUnitDifferences m k x
    → ((i : ℕ) → i < k → symbols i < m) → (c : ℕ → ℕ) × IsEncoding m k k x c symbols
message_of m k x symbols positive fit below =
    let w = inverses_below m k (λ i. product_but m k x i (x i)) (all_from_fit m k x positive fit) in (
      through m k x w.0 symbols,
      record {
        symbol = λ i l.
            sym ((through_at m k i x w.0 symbols positive l (w.1 i l)).same ∙ mod-eq_of_lt (below i l));
      },
    )

-- place i of row j, of n rows of k
pub row_index_below_size : (j n k i : ℕ) → j < n → i < k → j * k + i < n * k
row_index_below_size j n k i l b = grind (arith, mul-le-mul_right)

-- points that fit as a ghost field says fit, as whether there is an inverse is decided by trying each number
pub fit_known : (m n : ℕ) (x : ℕ → ℕ) → ∥ HaveUnitDifferences m n x ∥₁ → HaveUnitDifferences m n x
fit_known m n x known = record {
  unit = λ i j l k other.
      let a : ℕ = residue m (pos (x i) -ℤ pos (x j)) in
      elim (value_or_none m (1 % m) (λ y. (a * y) % m)) [
        | inl h ↦ (h.0, record { below = h.1; one = h.2 })
        | inr none ↦ absurd (∥∥₁_elim known (λ p q. absurd p)
            (λ fit. let h = fit.unit i j l k other in none h.0 h.1.below h.1.one))
      ];
}
