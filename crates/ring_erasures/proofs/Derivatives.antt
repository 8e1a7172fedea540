-- Polynomials with given roots: the values of their derivatives there, and division by them.
use Rattle.std.proofs.Common.{◌≡◌, ◌≢◌, ℕ, zero, suc, ◌+◌, ◌-◌, ◌*◌, ◌%◌, ◌^◌, ◌<◌, ◌≤◌, pos, ◌-ℤ◌, ap, sym, ◌∙◌, arith}
use Rattle.std.proofs.Common.{inl, inr, cond, eqb, ltb}
use Rattle.std.proofs.Math.Nat.{pow-suc}
use Rattle.std.proofs.lemmas.Bool.{cases_eq}
use Rattle.std.proofs.lemmas.Bool.Decides.{nat_tests, eqb_tells}
use Rattle.num_modular.specs.Congruence.{Congruent}
use Rattle.num_modular.specs.Inverses.{HasInverse}
use Rattle.num_modular.specs.NumberLaws.{mod_of_eq, mod_sym, mod_trans, mod_add, residue_of}
use Rattle.num_modular.specs.Polynomials.{polynomial_at, HaveUnitDifferences}
use Rattle.num_modular.specs.PolynomialLaws.{polynomial-first, polynomial-same}
use Rattle.num_modular.specs.ProductLaws.{has_product, product-same}
use Rattle.num_modular.specs.Products.{product_below}
use Rattle.num_modular.specs.Residues.{residue}
use Rattle.num_modular.specs.Sums.{sum_below}
use Rattle.ring_codes.specs.Shifts.{shifted}
use Rattle.ring_codes.proofs.Congruences.{mod_of_combination, mod_times, mod_of_inverse, has_one}
use Rattle.ring_codes.proofs.Counts.{fit_front}
use Rattle.ring_codes.proofs.NearestWords.{difference_alike, unit_alike}
use Rattle.ring_codes.proofs.NewtonForms.{no_difference, product-none, one_expanded}
use Rattle.ring_codes.specs.Roots.{product_of_differences}
use Rattle.ring_codes.proofs.Roots.{constant_value, longer_value, times_root, times_root_behind, times_root_value}
use Rattle.ring_erasures.specs.Erasures.{derivative, root_weight}

-- (X + r)·h has the derivative h + (X + r)·h'
derivative_of_times_root : (d r X : ℕ) (h : ℕ → ℕ) → polynomial_at d (derivative (times_root r h)) X + d * h d * X ^ d
    ≡ polynomial_at d h X + (X + r) * polynomial_at d (derivative h) X
unfolding times_root shifted sum_below
derivative_of_times_root zero r X h = omega arith
derivative_of_times_root (suc d) r X h =
    omega (arith, derivative_of_times_root d r X h, ap (λ v. suc d * h (suc d) * v) (pow-suc X d))

-- the coefficients of f, which has k, times the product of X - z for the c points z
pub coefficients_with_roots : ℕ → ℕ → ℕ → (ℕ → ℕ) → (ℕ → ℕ) → ℕ → ℕ
coefficients_with_roots m k zero z f = λ i. cond (ltb i k) (f i) 0
coefficients_with_roots m k (suc c) z f = times_root ((m - 1) * z c) (coefficients_with_roots m k c z f)

rooted_behind : (m k c : ℕ) (z f : ℕ → ℕ) → (i : ℕ) → k + c ≤ i → coefficients_with_roots m k c z f i ≡ 0
unfolding coefficients_with_roots
rooted_behind m k zero z f i l = grind (arith, nat_tests)
rooted_behind m k (suc c) z f i l =
    times_root_behind (k + c) ((m - 1) * z c) i (coefficients_with_roots m k c z f) (rooted_behind m k c z f)
    (omega (arith, l))

pub rooted_value : (m k c n X : ℕ) (z f : ℕ → ℕ) → 0 < m → k + c ≤ n
    → Congruent m (polynomial_at n (coefficients_with_roots m k c z f) X) (polynomial_at k f X * product_of_differences
    m c z X)
unfolding coefficients_with_roots product_below
rooted_value m k zero n X z f positive room =
    let same = polynomial-same k (coefficients_with_roots m k 0 z f) f X (λ i l. grind (arith, nat_tests)) in
    let whole = longer_value k n X (coefficients_with_roots m k 0 z f) (omega arith) (λ i l. rooted_behind m k 0 z f i
    (omega arith)) in
    mod_of_eq (omega (arith, whole, same))
rooted_value m k (suc c) zero X z f positive room = absurd (omega arith)
rooted_value m k (suc c) (suc n) X z f positive room =
    mod_of_combination (mod_add (mod_times (X + (m - 1) * z c) (rooted_value m k c n X z f positive (omega arith)))
    (mod_times (polynomial_at k f X * product_of_differences m c z X) (mod_sym (difference_alike m X (z c) positive))))
    (omega (
      arith,
      times_root_value n ((m - 1) * z c) X (coefficients_with_roots m k c z f)
          (rooted_behind m k c z f n (omega arith)),
    ))

-- the weight of the last of c + 1 roots, and of another one
last_weight : (m c l : ℕ) (z : ℕ → ℕ) → l ≡ c → root_weight m (suc c) z l ≡ product_of_differences m c z (z l)
unfolding product_below
last_weight m c l z e =
    let g : ℕ → ℕ = λ j. cond (eqb j l) 1 (residue m (pos (z l) -ℤ pos (z j))) in
    let before = product-same c g (λ j. residue m (pos (z l) -ℤ pos (z j))) (λ j b. grind (arith, nat_tests)) in
    let one : g c ≡ 1 = grind (arith, nat_tests) in rw one (omega (arith, before))

other_weight : (m c l : ℕ) (z : ℕ → ℕ) → l ≢ c
    → root_weight m (suc c) z l ≡ root_weight m c z l * residue m (pos (z l) -ℤ pos (z c))
unfolding product_below
other_weight m c l z other = grind (arith, nat_tests)

-- at a root z l the derivative of f times the product of X - z is f times the root's weight
pub derivative_at_root : (m k c n l : ℕ) (z f : ℕ → ℕ) → 0 < m → l < c → k + c ≤ suc n
    → Congruent m (polynomial_at n (derivative (coefficients_with_roots m k c z f)) (z l))
    (polynomial_at k f (z l) * root_weight m c z l)
unfolding coefficients_with_roots
derivative_at_root m k zero n l z f positive within room = absurd (omega arith)
derivative_at_root m k (suc c) n l z f positive within room =
    let X : ℕ = z l in let r : ℕ = (m - 1) * z c in let h = coefficients_with_roots m k c z f in let F : ℕ =
    polynomial_at k f X in
    let D : ℕ = polynomial_at n (derivative h) X in let whole = derivative_of_times_root n r X h in
    let gone = ap (λ v. n * v * X ^ n) (rooted_behind m k c z f n (omega arith)) in
    let value = rooted_value m k c n X z f positive (omega arith) in
    let turned = mod_sym (difference_alike m X (z c) positive) in elim (cases_eq l c) [
      | inl e ↦
          let none : residue m (pos X -ℤ pos (z c)) ≡ 0 = rw e (no_difference m (z c)) in
          mod_of_combination (mod_add value (mod_times D turned))
          (omega (arith, whole, gone, ap (λ v. F * v) (last_weight m c l z e), ap (λ v. D * v) none))
      | inr other ↦
          let root = product-none c l (λ j. residue m (pos X -ℤ pos (z j))) (omega arith) (no_difference m X) in
          let before = derivative_at_root m k c n l z f positive (omega arith) (omega arith) in
          mod_of_combination
          (mod_add value (mod_add (mod_times (X + r) before) (mod_times (F * root_weight m c z l) turned)))
          (omega (arith, whole, gone, ap (λ v. F * v) (other_weight m c l z other), ap (λ v. F * v) root))
    ]

-- the derivative has an inverse at each root, where the roots fit
pub weight_unit : (m c l : ℕ) (z : ℕ → ℕ) → 0 < m → HaveUnitDifferences m c z → l < c
    → HasInverse m (root_weight m c z l)
weight_unit m c l z positive fit within =
    has_product m c (λ j. cond (eqb j l) 1 (residue m (pos (z l) -ℤ pos (z j)))) positive (λ j b.
    elim (eqb_tells j l) [
      | inl p ↦ rw p.0 (unit_alike m (1 % m) 1 (residue_of 1) (has_one m positive))
      | inr p ↦ rw p.0 (fit.unit l j within b (λ e. p.1 (sym e)))
    ])

-- a factor with an inverse cancels
pub factor_cancels : {m a u v : ℕ} → HasInverse m a → Congruent m (a * u) (a * v) → Congruent m u v
factor_cancels {u} {v} unit same =
    let one = mod_of_inverse unit.1 in
    mod_of_combination (mod_add (mod_times unit.0 same) (mod_add (mod_times u (mod_sym one)) (mod_times v one)))
    (omega arith)

-- for each of n + 1 coefficients the value at a of what begins with it: all but the first are the quotient by X - a
rests : ℕ → ℕ → (ℕ → ℕ) → ℕ → ℕ
rests n a p i = polynomial_at (suc n - i) (λ j. p (j + i)) a

rests_more : (n a i : ℕ) (p : ℕ → ℕ) → i < n → p i + a * rests n a p (suc i) ≡ rests n a p i
unfolding rests
rests_more n a i p l =
    let next : suc n - i ≡ suc (suc n - suc i) = omega arith in let here : 0 + i ≡ i = omega arith in
    let same = polynomial-same (suc n - suc i) (λ j. p (suc j + i)) (λ j. p (j + suc i)) a
    (λ j b. ap p (omega arith)) in
    rw (next, polynomial-first (suc n - suc i) (λ j. p (j + i)) a) (omega (arith, ap p here, ap (λ v. a * v) same))

rests_last : (n a : ℕ) (p : ℕ → ℕ) → p n ≡ rests n a p n
unfolding rests
rests_last n a p =
    let one : suc n - n ≡ suc 0 = omega arith in let here : n ≡ 0 + n = omega arith in
    rw one (ap p here ∙ sym (constant_value a (λ j. p (j + n))))

-- of a polynomial that is 0 at c points that fit, the quotient by the product of X - z
pub divided_by_roots : (m k c : ℕ) (z p : ℕ → ℕ) → 0 < m → HaveUnitDifferences m c z
    → ((l : ℕ) → l < c → Congruent m (polynomial_at (k + c) p (z l)) 0)
    → (f : ℕ → ℕ) × ((X : ℕ) → Congruent m (polynomial_at (k + c) p X)
    (polynomial_at k f X * product_of_differences m c z X))
unfolding product_below
divided_by_roots m k zero z p positive fit roots =
    let same : k + 0 ≡ k = omega arith in (p, λ X. rw same (mod_of_eq (omega arith)))
divided_by_roots m k (suc c) z p positive fit roots =
    let a : ℕ = z c in let n : ℕ = k + c in let q : ℕ → ℕ = λ l. rests n a p (suc l) in
    let next : k + suc c ≡ suc n = omega arith in
    let expanded = λ (X : ℕ). rw (← next) at (one_expanded m n a X p (rests n a p) positive
    (λ l b. mod_of_eq (rests_more n a l p b)) (rests_last n a p)) in
    let factor : (X : ℕ) → Congruent m (polynomial_at (k + suc c) p X)
    (residue m (pos X -ℤ pos a) * polynomial_at n q X) =
    λ X. mod_of_combination (mod_add (expanded X) (mod_add (mod_sym (expanded a)) (roots c (omega arith))))
    (omega (arith, ap (λ v. v * polynomial_at n q a) (no_difference m a))) in
    let rest = divided_by_roots m k c z q positive (fit_front m (suc c) c z (omega arith) fit) (λ l b.
    factor_cancels (fit.unit l c (omega arith) (omega arith) (omega arith))
    (mod_trans (mod_sym (factor (z l))) (mod_trans (roots l (omega arith)) (mod_of_eq (omega arith))))) in (
      rest.0,
      λ X. mod_of_combination (mod_add (factor X) (mod_times (residue m (pos X -ℤ pos a)) (rest.1 X)))
          (omega arith),
    )
