-- Bounds of sums of products: of coefficients, and of what is reduced.
use Rattle.std.proofs.Common.{◌≡◌, ℕ, ◌+◌, ◌-◌, ◌*◌, ◌/◌, ◌<◌, ◌≤◌, ◌↔◌, All, List, length, get_or, arith, inl, inr}
use Rattle.std.proofs.Math.Nat.{mul-le-mul, mul-le-mul_right, mul-div-le, lt-mul-div-succ}
use Rattle.std.proofs.lemmas.Bool.{cases_lt}
use Rattle.std.proofs.lemmas.List.{get_or_past}
use Rattle.num_modular.specs.Sums.{sum_below}
use Rattle.num_modular.specs.NumberLaws.{sum_below-joined, sum_below-of_zeros, sum_below-bounded}
use Rattle.long_product.specs.Polynomials.{product_sum, FitsProduct, FitsCyclic, FitsFold}
use Rattle.long_product.proofs.Coefficients.{no_back}

-- a residue and the product of a word with another
pub folded_fits : (m c a b : ℕ) → a < m → b < m → c < 18446744073709551616 → a + c * b < m * 18446744073709551616
folded_fits m c a b less other word = search (arith, mul-le-mul)

-- Garner's digits, with residues in place of the products of primes
pub combination_fits : (m first second third f g : ℕ) → first < 1152921092289986561 → second < 1152920989210771457
    → third < 1152920933376196609 → f < m → g < m → first + second * f + third * g < m * 18446744073709551616
combination_fits m first second third f g a b c less other = search (arith, mul-le-mul)

-- what is at most a quotient, times the divisor
pub times_divisor : (x n t : ℕ) → x ≤ n / t → t * x ≤ n
times_divisor x n t few = search (arith, mul-div-le, mul-le-mul)

-- what is above a quotient, times the divisor
pub times_divisor_above : (x n t : ℕ) → 1 ≤ t → n / t < x → n < t * x
times_divisor_above x n t some more = search (arith, lt-mul-div-succ, mul-le-mul)

-- a coefficient of a list, or 0 after it
pub coefficient_at_most : (xs : List ℕ) (s i : ℕ) → All (λ x. x ≤ s) xs → get_or xs i 0 ≤ s
coefficient_at_most xs s i few = search (arith, cases_lt, get_or_past)

-- a term
term_at_most : (xs ys : List ℕ) (s t e i : ℕ) → All (λ x. x ≤ s) xs → All (λ y. y ≤ t) ys
    → get_or xs i 0 * get_or ys (e - i) 0 ≤ s * t
term_at_most xs ys s t e i few other =
    mul-le-mul (coefficient_at_most xs s i few) (coefficient_at_most ys t (e - i) other)

-- after terms of 0, some that are at most b
bounded_after : (a d b : ℕ) (f : ℕ → ℕ) → ((i : ℕ) → i < a → f i ≡ 0) → ((i : ℕ) → f i ≤ b)
    → sum_below (a + d) f ≤ d * b
bounded_after a d b f none few = search (arith, sum_below-joined, sum_below-of_zeros, sum_below-bounded)

-- no coefficient of a product is a sum of more terms than a factor has coefficients
pub sum_by_left : (xs ys : List ℕ) (s t e : ℕ) → All (λ x. x ≤ s) xs → All (λ y. y ≤ t) ys
    → product_sum xs ys e ≤ length xs * (s * t)
sum_by_left xs ys s t e few other =
    let f = λ (i : ℕ). get_or xs i 0 * get_or ys (e - i) 0 in
    let term = λ (i : ℕ). term_at_most xs ys s t e i few other in
    elim (cases_lt (length xs) (e + 1)) [
      | inl l ↦
          let whole = no_back xs ys e (length xs) (omega arith) (λ k. omega arith) in
          omega (arith, whole, sum_below-bounded (length xs) (s * t) f (λ i k. term i))
      | inr l ↦
          omega (arith, sum_below-bounded (e + 1) (s * t) f (λ i k. term i), mul-le-mul_right (s * t) l)
    ]

pub sum_by_right : (xs ys : List ℕ) (s t e : ℕ) → All (λ x. x ≤ s) xs → All (λ y. y ≤ t) ys
    → product_sum xs ys e ≤ length ys * (s * t)
sum_by_right xs ys s t e few other =
    let f = λ (i : ℕ). get_or xs i 0 * get_or ys (e - i) 0 in
    let term = λ (i : ℕ). term_at_most xs ys s t e i few other in
    elim (cases_lt (length ys) (e + 1)) [
      | inl l ↦
          let whole : e + 1 - length ys + length ys ≡ e + 1 = omega arith in
          search (arith, bounded_after, get_or_past)
      | inr l ↦
          omega (arith, sum_below-bounded (e + 1) (s * t) f (λ i k. term i), mul-le-mul_right (s * t) l)
    ]

-- a product has no more places than both factors have coefficients
few_places : (m xs ys places : ℕ) → FitsProduct m xs ys places → places ≤ xs + ys
few_places m xs ys places fits = search (arith, cases_lt)

-- a product that fits, and a cyclic one, as products modulo X^n - c
pub product_folds : (m xs ys places : ℕ) → FitsProduct m xs ys places → FitsFold m 0 xs ys places
product_folds m xs ys places fits =
    record {
      modulus = fits.modulus;
      places = few_places m xs ys places fits;
      past =
          λ some. absurd (omega (arith, some));
    }

pub cyclic_folds : (m c xs ys places : ℕ) → FitsCyclic m xs ys places → FitsFold m c xs ys places
cyclic_folds m c xs ys places fits = search arith

-- one of two conditions, in other words
pub in_other_words : {R A B C : Type 0} → R ↔ (A × C) → A ↔ B → R ↔ (B × C)
in_other_words is same = (λ r. let h = is.0 r in (same.0 h.0, h.1), λ h. is.1 (same.1 h.0, h.1))
