-- Polynomials with given roots, root by root: products of X + r, where (m - 1)·z takes the place of -z.
use Rattle.ring_codes.proofs.Names.{◌≡◌, ◌+◌, ◌-◌, ◌*◌, ◌%◌, ◌^◌, ◌<◌, ◌≤◌, ◌∙◌, ℕ, zero, suc, ap, sym, arith, refl}
use Rattle.ring_codes.proofs.Names.{inl, inr, pow-zero, cases_lt, Congruent, mod_of_eq, mod_refl, mod_sym, mod_trans}
use Rattle.ring_codes.proofs.Names.{mod_add, sum_below-suc, sum_below-zero, polynomial_at, polynomial-congruent, tail}
use Rattle.ring_codes.proofs.Names.{HasRoots, AreRootCoefficients}
use Rattle.num_modular.specs.Products.{product_below}
use Rattle.num_modular.specs.Sums.{sum_below}
use Rattle.ring_codes.specs.Shifts.{shifted}
use Rattle.ring_codes.proofs.Congruences.{mod_of_combination, mod_of_modulus, mod_of_residue, mod_times}
use Rattle.ring_codes.proofs.Congruences.{product-congruent}
use Rattle.ring_codes.proofs.NearestWords.{polynomial_value_is_linear, turned_sign, difference_alike}
use Rattle.ring_codes.proofs.Shifts.{shifted-values, shifted-congruent}

-- a polynomial with one coefficient
pub constant_value : (X : ℕ) (f : ℕ → ℕ) → polynomial_at (suc 0) f X ≡ f 0
constant_value X f =
    omega (arith, sum_below-suc 0 (λ i. f i * X ^ i), sum_below-zero (λ i. f i * X ^ i), ap (λ v. f 0 * v) (pow-zero X))

-- zeros behind change no value
pub longer_value : (n s X : ℕ) (p : ℕ → ℕ) → n ≤ s → ((i : ℕ) → n ≤ i → p i ≡ 0)
    → polynomial_at s p X ≡ polynomial_at n p X
longer_value n s X p few none =
    let whole : s ≡ n + (s - n) = omega (arith, few) in
    ap (λ v. polynomial_at v p X) whole
    ∙ tail n (s - n) (λ i. p i * X ^ i) (λ i l b. let z = ap (λ v. v * X ^ i) (none i l) in omega (arith, z))

-- a polynomial times a number
pub scaled_polynomial : (n p : ℕ) (f : ℕ → ℕ) (X : ℕ) → polynomial_at n (λ l. p * f l) X ≡ p * polynomial_at n f X
unfolding sum_below
scaled_polynomial zero p f X = omega arith
scaled_polynomial (suc n) p f X = let i = scaled_polynomial n p f X in omega (arith, i)

-- the coefficients of X + r times a polynomial
unfoldable pub times_root : ℕ → (ℕ → ℕ) → ℕ → ℕ
times_root r h i = shifted h i + r * h i

-- those behind are 0
pub times_root_behind : (d r i : ℕ) (h : ℕ → ℕ) → ((i : ℕ) → d ≤ i → h i ≡ 0) → suc d ≤ i → times_root r h i ≡ 0
unfolding times_root shifted
times_root_behind d r zero h none l = absurd (omega (arith, l))
times_root_behind d r (suc i) h none l =
    omega (arith, none i (omega (arith, l)), ap (λ w. r * w) (none (suc i) (omega (arith, l))))

pub times_root_value : (d r X : ℕ) (h : ℕ → ℕ) → h d ≡ 0
    → polynomial_at (suc d) (times_root r h) X ≡ (X + r) * polynomial_at d h X
unfolding times_root
times_root_value d r X h none =
    let parts = polynomial_value_is_linear (suc d) (shifted h) h r X in
    let same : polynomial_at (suc d) h X ≡ polynomial_at d h X =
    omega (arith, sum_below-suc d (λ i. h i * X ^ i), ap (λ w. w * X ^ d) none) in
    omega (arith, parts, shifted-values d X h, ap (λ w. r * w) same)

-- the coefficients of 1
pub constant_one : ℕ → ℕ
constant_one zero = 1
constant_one (suc i) = 0

pub constant_one_behind : (i : ℕ) → 1 ≤ i → constant_one i ≡ 0
unfolding constant_one
constant_one_behind zero l = absurd (omega arith)
constant_one_behind (suc i) l = refl

-- the coefficients of the product of X + r 0, .., X + r (d - 1) and a polynomial
pub expanded : ℕ → (ℕ → ℕ) → (ℕ → ℕ) → ℕ → ℕ
expanded zero r h = h
expanded (suc d) r h = times_root (r d) (expanded d r h)

pub expanded_behind : (d e : ℕ) (r h : ℕ → ℕ) → ((i : ℕ) → e ≤ i → h i ≡ 0) → (i : ℕ) → d + e ≤ i → expanded d r h i ≡ 0
unfolding expanded
expanded_behind zero e r h none i l = none i (omega arith)
expanded_behind (suc d) e r h none i l =
    times_root_behind (d + e) (r d) i (expanded d r h) (expanded_behind d e r h none) (omega arith)

-- its values are the products
pub value_expanded : (d e n X : ℕ) (r h : ℕ → ℕ) → ((i : ℕ) → e ≤ i → h i ≡ 0) → n ≡ d + e
    → polynomial_at n (expanded d r h) X ≡ product_below d (λ j. X + r j) * polynomial_at e h X
unfolding expanded product_below
value_expanded zero e n X r h none count = let is : n ≡ e = omega (arith, count) in rw is (omega arith)
value_expanded (suc d) e n X r h none count =
    let is : n ≡ suc (d + e) = omega (arith, count) in
    let last = expanded_behind d e r h none (d + e) (omega arith) in
    rw (is, times_root_value (d + e) (r d) X (expanded d r h) last, value_expanded d e (d + e) X r h none refl)
    (omega arith)

-- those of the product alone: its values, and its highest coefficient
pub product_expanded : (d X : ℕ) (r : ℕ → ℕ)
    → polynomial_at (suc d) (expanded d r constant_one) X ≡ product_below d (λ j. X + r j)
unfolding constant_one
product_expanded d X r =
    rw (value_expanded d 1 (suc d) X r constant_one constant_one_behind (omega arith), constant_value X constant_one)
    (omega arith)

pub highest_is_one : (d : ℕ) (r : ℕ → ℕ) → expanded d r constant_one d ≡ 1
unfolding expanded times_root shifted constant_one
highest_is_one zero r = refl
highest_is_one (suc d) r =
    let none = expanded_behind d 1 r constant_one constant_one_behind (suc d) (omega arith) in
    omega (arith, highest_is_one d r, ap (λ v. r d * v) none)

-- the product without roots
pub coefficients_none : (m : ℕ) (r f : ℕ → ℕ) → f 0 ≡ 1 % m → ((j : ℕ) → 0 < j → f j ≡ 0)
    → (j : ℕ) → Congruent m (f j) (expanded 0 r constant_one j)
unfolding expanded constant_one
coefficients_none m r f first none zero = mod_of_residue first
coefficients_none m r f first none (suc j) = mod_of_eq (none (suc j) (omega arith))

-- with one root more
pub coefficients_more : (m i : ℕ) (x f g : ℕ → ℕ) → 0 < m
    → ((j : ℕ) → Congruent m (f j) (expanded i (λ l. (m - 1) * x l) constant_one j)) → ((j : ℕ) → i < j → f j ≡ 0)
    → ((j : ℕ) → j < i + 2 → Congruent m (g j + x i * f j) (shifted f j)) → ((j : ℕ) → i + 2 ≤ j → g j ≡ f j)
    → (j : ℕ) → Congruent m (g j) (expanded (i + 1) (λ l. (m - 1) * x l) constant_one j)
unfolding expanded times_root
coefficients_more m i x f g positive same none each behind j =
    let r : ℕ → ℕ = λ l. (m - 1) * x l in
    let next : i + 1 ≡ suc i = omega arith in
    elim (cases_lt j (i + 2)) [
      | inl l ↦
          let t = turned_sign m (x i * f j) positive in
          rw next (mod_of_combination (mod_add (each j l) (mod_add (shifted-congruent m j f _ same)
          (mod_add (mod_times (r i) (same j)) (mod_sym (mod_of_modulus (x i * f j)))))) (omega (arith, t)))
      | inr b ↦
          let last = expanded_behind (i + 1) 1 r constant_one constant_one_behind j (omega (arith, b)) in
          mod_of_eq (behind j b ∙ none j (omega (arith, b)) ∙ sym last)
    ]

-- what these coefficients are
pub roots_of_coefficients : (m c : ℕ) (x f : ℕ → ℕ) → 0 < m
    → ((j : ℕ) → Congruent m (f j) (expanded c (λ l. (m - 1) * x l) constant_one j)) → HasRoots m c x f
roots_of_coefficients m c x f positive same = record {
  highest = mod_trans (same c) (mod_of_eq (highest_is_one c (λ l. (m - 1) * x l)));
  value = λ X.
      let next : c + 1 ≡ suc c = omega arith in
      rw next (mod_trans (polynomial-congruent (suc c) f _ X X (λ i l. same i) (mod_refl X))
      (mod_trans (mod_of_eq (product_expanded c X (λ l. (m - 1) * x l)))
      (product-congruent m c _ _ (λ l b. mod_sym (difference_alike m X (x l) positive)))));
}

pub coefficients_of_roots : (m c : ℕ) (x f : ℕ → ℕ)
    → ((j : ℕ) → Congruent m (f j) (expanded c (λ l. (m - 1) * x l) constant_one j)) → AreRootCoefficients m c x f
coefficients_of_roots m c x f same = record {
  whole = expanded c (λ l. (m - 1) * x l) constant_one;
  value = λ a. let next : c + 1 ≡ suc c = omega arith in rw next (product_expanded c a (λ l. (m - 1) * x l));
  same = λ k l. same k;
}
