-- Products of polynomials modulo X^n - c by the coefficients of the whole product.
use Rattle.std.proofs.Common.{◌≡◌, ℕ, ◌+◌, ◌-◌, ◌*◌, ◌%◌, ◌<◌, ◌≤◌, List, length, get_or}
use Rattle.std.proofs.Common.{cond, eqb, ◌||◌, sym, ◌∙◌, ap, arith, inl, inr}
use Rattle.std.proofs.lemmas.Bool.{cases_lt}
use Rattle.std.proofs.lemmas.Bool.Decides.{eqb_tells}
use Rattle.std.proofs.lemmas.List.{get_or_past}
use Rattle.num_modular.specs.Sums.{sum_below}
use Rattle.num_modular.specs.NumberLaws.{sum_below-same, sum_below-add, sum_below-of_zeros}
use Rattle.num_modular.specs.SumLaws.{single, tail}
use Rattle.num_modular.specs.Transforms.{cyclic_product}
use Rattle.num_modular.specs.PlanProducts.{coefficient, product_modulo}
use Rattle.long_product.specs.Polynomials.{folded_entry}

-- a term at its place ..
chosen_value : (s e v : ℕ) → s ≡ e → cond (eqb s e) v 0 ≡ v
chosen_value s e v is = elim (eqb_tells s e) [ inl p ↦ rw p.0 (omega arith) | inr p ↦ absurd (p.1 is) ]

-- .. and elsewhere
value_not_chosen : (s e v : ℕ) → (s ≡ e → v ≡ 0) → cond (eqb s e) v 0 ≡ 0
value_not_chosen s e v none = search (arith, eqb_tells)

-- the terms of x i
linear_row_is_one_product : (n s i : ℕ) (x y : ℕ → ℕ) → ((j : ℕ) → n ≤ j → y j ≡ 0) → i ≤ s
    → sum_below n (λ j. cond (eqb (i + j) s) (x i * y j) 0) ≡ x i * y (s - i)
linear_row_is_one_product n s i x y few within =
    elim (cases_lt (s - i) n) [
      | inl l ↦
          single n (s - i) (λ j. cond (eqb (i + j) s) (x i * y j) 0) l
          (λ j k other. value_not_chosen (i + j) s (x i * y j) (λ e. absurd (other (omega arith))))
          ∙ chosen_value (i + (s - i)) s (x i * y (s - i)) (omega arith)
      | inr l ↦ search (arith, sum_below-of_zeros, value_not_chosen)
    ]

-- a coefficient of the product is the sum of the terms at its place
pub coefficient_sum : (n s : ℕ) (x y : ℕ → ℕ) → ((i : ℕ) → n ≤ i → x i ≡ 0) → ((j : ℕ) → n ≤ j → y j ≡ 0)
    → coefficient n x y s ≡ sum_below (s + 1) (λ i. x i * y (s - i))
coefficient_sum n s x y few_x few_y =
    let f = λ (i : ℕ). sum_below n (λ j. cond (eqb (i + j) s) (x i * y j) 0) in
    let g = λ (i : ℕ). x i * y (s - i) in
    elim (cases_lt (s + 1) n) [
      | inl l ↦
          ap (λ k. sum_below k f) (omega arith)
          ∙ tail (s + 1) (n - (s + 1)) f (λ i a b. sum_below-of_zeros n (λ j. cond (eqb (i + j) s) (x i * y j) 0)
          (λ j k. value_not_chosen (i + j) s (x i * y j) (λ e. absurd (omega arith))))
          ∙ sum_below-same (s + 1) f g (λ i k. linear_row_is_one_product n s i x y few_y (omega arith))
      | inr l ↦
          sum_below-same n f g (λ i k. linear_row_is_one_product n s i x y few_y (omega arith))
          ∙ sym (ap (λ k. sum_below k g) (omega arith)
          ∙ tail n (s + 1 - n) g (λ i a b. ap (λ v. v * y (s - i)) (few_x i a) ∙ omega arith))
    ]

-- a place is e or e + n, but not both
either_place_term_splits : (n s e v : ℕ) → 0 < n → cond (eqb s e || eqb s (e + n)) v 0 ≡ cond (eqb s e) v 0 + cond
    (eqb s (e + n)) v 0
either_place_term_splits n s e v some = search (arith, eqb_tells)

-- modulo X^n - 1 the product is the cyclic one
pub product_modulo_one_is_cyclic : (m n e : ℕ) (x y : ℕ → ℕ) → 0 < n → product_modulo m n 1 x y e ≡ cyclic_product m n x
    y e
product_modulo_one_is_cyclic m n e x y some =
    let f = λ (i j : ℕ). cond (eqb (i + j) e) (x i * y j) 0 in
    let h = λ (i j : ℕ). cond (eqb (i + j) (e + n)) (x i * y j) 0 in
    let row = λ (t : ℕ → ℕ → ℕ) (i : ℕ). sum_below n (λ j. t i j) in
    let sums = sum_below-same n (λ i. sum_below n (λ j. cond (eqb (i + j) e || eqb (i + j) (e + n)) (x i * y j) 0))
    (λ i. row f i + row h i)
    (λ i l. search (arith, sum_below-same, either_place_term_splits, sum_below-add))
    ∙ sum_below-add n (row f) (row h) in
    ap (λ v. (coefficient n x y e + v) % m) (omega arith) ∙ ap (λ v. v % m) (sym sums)

-- an entry of the product modulo X^n - c ..
pub folded_modulo : (m c n e : ℕ) (xs ys : List ℕ) → length xs ≡ n → length ys ≡ n
    → folded_entry m c n xs ys e ≡ product_modulo m n c (λ i. get_or xs i 0) (λ j. get_or ys j 0) e
folded_modulo m c n e xs ys left right = search (arith, coefficient_sum, get_or_past)

-- .. and of the cyclic product
pub folded_cyclic : (m n e : ℕ) (xs ys : List ℕ) → 0 < n → length xs ≡ n → length ys ≡ n
    → folded_entry m 1 n xs ys e ≡ cyclic_product m n (λ i. get_or xs i 0) (λ j. get_or ys j 0) e
folded_cyclic m n e xs ys some left right =
    folded_modulo m 1 n e xs ys left right ∙ product_modulo_one_is_cyclic m n e (λ i. get_or xs i 0)
    (λ j. get_or ys j 0) some
