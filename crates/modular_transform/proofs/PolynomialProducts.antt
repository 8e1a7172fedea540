-- A cyclic product with room for every term is the product of two polynomials.
use Rattle.std.proofs.Common.{◌≡◌, ◌≢◌, ℕ, suc, zero, ◌+◌, ◌*◌, ◌%◌, ◌^◌, ◌<◌}
use Rattle.std.proofs.Common.{◌≤◌, sym, ◌∙◌, ap, arith, inl, inr, eqb, cond, ◌||◌}
use Rattle.std.proofs.lemmas.Nat.{pow-add}
use Rattle.std.proofs.lemmas.Bool.{cases_lt, cases_eq}
use Rattle.std.proofs.lemmas.Bool.Decides.{eqb_tells}
use Rattle.std.proofs.Math.Nat.{mod-eq_of_lt, mul-le-mul}
use Rattle.modular_word.specs.Sums.{sum_below}
use Rattle.modular_word.proofs.Sums.{sum_below-zero, sum_below-suc, sum_below-same}
use Rattle.modular_word.proofs.Sums.{sum_below-times_sum, sum_below-of_zeros, sum_below-bounded}
use Rattle.modular_transform.specs.Transforms.{cyclic_product}
use Rattle.modular_transform.proofs.CyclicProducts.{factor_out_of_double_sum, outermost_sum_becomes_innermost}

-- a value at one place alone
pub equal_places_keep_value : (s e v : ℕ) → s ≡ e → cond (eqb s e) v 0 ≡ v
equal_places_keep_value s e v is = elim (eqb_tells s e) [ inl p ↦ rw p.0 (omega arith) | inr p ↦ absurd (p.1 is) ]

pub at_other : (s e v : ℕ) → s ≢ e → cond (eqb s e) v 0 ≡ 0
at_other s e v ne = elim (eqb_tells s e) [ inl p ↦ absurd (ne p.1) | inr p ↦ rw p.0 (omega arith) ]

-- .. summed over places
pub sum_at_place : (n s : ℕ) (f : ℕ → ℕ) → s < n → sum_below n (λ e. cond (eqb s e) (f e) 0) ≡ f s
sum_at_place zero s f l = absurd (omega arith)
sum_at_place (suc n) s f l =
    let d = sum_below-suc n (λ e. cond (eqb s e) (f e) 0) in
    elim (cases_eq s n) [
      | inl is ↦
          let z = sum_below-of_zeros n (λ e. cond (eqb s e) (f e) 0) (λ e t. at_other s e (f e) (omega arith)) in
          omega (arith, d, z, equal_places_keep_value s n (f n) is, ap f is)
      | inr ne ↦
          omega (arith, d, sum_at_place n s f (omega arith), at_other s n (f n) ne)
    ]

sum_at_none : (n s : ℕ) (f : ℕ → ℕ) → n ≤ s → sum_below n (λ e. cond (eqb s e) (f e) 0) ≡ 0
sum_at_none n s f l = sum_below-of_zeros n (λ e. cond (eqb s e) (f e) 0) (λ e t. at_other s e (f e) (omega arith))

-- a sum in which at most one bounded term counts
row_bounded : (n i e c : ℕ) (f : ℕ → ℕ) → ((j : ℕ) → j < n → f j ≤ c)
    → sum_below n (λ j. cond (eqb (i + j) e) (f j) 0) ≤ c
row_bounded zero i e c f few = let d = sum_below-zero (λ j. cond (eqb (i + j) e) (f j) 0) in omega (arith, d)
row_bounded (suc n) i e c f few =
    let d = sum_below-suc n (λ j. cond (eqb (i + j) e) (f j) 0) in
    elim (cases_eq (i + n) e) [
      | inl is ↦
          let z = sum_below-of_zeros n (λ j. cond (eqb (i + j) e) (f j) 0)
          (λ j t. at_other (i + j) e (f j) (omega arith)) in
          omega (arith, d, z, equal_places_keep_value (i + n) e (f n) is, few n (omega arith))
      | inr ne ↦
          omega (arith, d, row_bounded n i e c f (λ j l. few j (omega arith)), at_other (i + n) e (f n) ne)
    ]

-- where the terms of index n and above are 0, a term of the cyclic product has only one place
cyclic_place_is_plain_place : (n i j e v : ℕ) → (n ≤ i + j → v ≡ 0)
    → cond (eqb (i + j) e || eqb (i + j) (e + n)) v 0 ≡ cond (eqb (i + j) e) v 0
cyclic_place_is_plain_place n i j e v room = grind arith

-- the terms at place e
product_terms : ℕ → (ℕ → ℕ) → (ℕ → ℕ) → ℕ → ℕ
product_terms n x y e = sum_below n (λ i. sum_below n (λ j. cond (eqb (i + j) e) (x i * y j) 0))

cyclic_product_is_terms : (m n s t : ℕ) (x y : ℕ → ℕ) (e : ℕ) → ((i : ℕ) → i < n → x i ≤ s)
    → ((j : ℕ) → j < n → y j ≤ t) → n * (s * t) < m
    → ((i j : ℕ) → i < n → j < n → n ≤ i + j → x i * y j ≡ 0) → cyclic_product m n x y e ≡ product_terms n x y e
unfolding product_terms
cyclic_product_is_terms m n s t x y e few few_y small room =
    let same = sum_below-same _ _ _
    (λ i l. sum_below-same n (λ j. cond (eqb (i + j) e || eqb (i + j) (e + n)) (x i * y j) 0)
    (λ j. cond (eqb (i + j) e) (x i * y j) 0) (λ j k. cyclic_place_is_plain_place n i j e (x i * y j) (room i j l k)))
    in
    let below = sum_below-bounded _ _ _ (λ i l. row_bounded n i e (s * t) (λ j. x i * y j)
    (λ j k. mul-le-mul (few i l) (few_y j k))) in
    ap (λ v. v % m) same ∙ mod-eq_of_lt (omega (arith, below, small))

-- one term of the product, in the sum over all places
term_over_places : (n b i j v w : ℕ) → (n ≤ i + j → v * w ≡ 0)
    → sum_below n (λ e. cond (eqb (i + j) e) (b ^ e * (v * w)) 0) ≡ (v * b ^ i) * (w * b ^ j)
term_over_places n b i j v w room = elim (cases_lt (i + j) n) [
  | inl l ↦
      sum_at_place _ _ _ l ∙ (ap (λ k. k * (v * w)) (pow-add b i j)) ∙ omega arith
  | inr l ↦
      let r : v * w * (b ^ i * b ^ j) ≡ 0 = grind (arith, room (omega arith)) in
      sum_at_none _ _ _ (omega arith) ∙ sym ((omega arith) ∙ r)
]

factor_moves_into_choice : (s e c v : ℕ) → c * cond (eqb s e) v 0 ≡ cond (eqb s e) (c * v) 0
factor_moves_into_choice s e c v = elim (eqb_tells s e) [ inl p ↦ rw p.0 (omega arith) | inr p ↦ rw p.0 (omega arith) ]

terms_times_power : (n b e : ℕ) (x y : ℕ → ℕ)
    → product_terms n x y e * b ^ e ≡ sum_below n (λ i. sum_below n (λ j. cond (eqb (i + j) e) (b ^ e * (x i * y j)) 0))
unfolding product_terms
terms_times_power n b e x y =
    (omega arith) ∙ sym (factor_out_of_double_sum _ _ _ _)
    ∙ sum_below-same _ _ _ (λ i l. sum_below-same _ _ _ (λ j k. factor_moves_into_choice _ _ _ _))

-- the entries are the coefficients of the product
pub polynomial_product : {m : ℕ} (n b s t : ℕ) (x y : ℕ → ℕ) → ((i : ℕ) → i < n → x i ≤ s)
    → ((j : ℕ) → j < n → y j ≤ t) → n * (s * t) < m
    → ((i j : ℕ) → i < n → j < n → n ≤ i + j → x i * y j ≡ 0)
    → sum_below n (λ e. cyclic_product m n x y e * b ^ e)
    ≡ sum_below n (λ i. x i * b ^ i) * sum_below n (λ j. y j * b ^ j)
polynomial_product {m} n b s t x y few few_y small room =
    let f = λ (i j e : ℕ). cond (eqb (i + j) e) (b ^ e * (x i * y j)) 0 in
    sum_below-same _ _ _ (λ e l. ap (λ v. v * b ^ e) (cyclic_product_is_terms _ _ _ _ _ _ _ few few_y small room)
    ∙ terms_times_power n b e x y) ∙ outermost_sum_becomes_innermost n n f
    ∙ sum_below-same _ _ _ (λ i l. sum_below-same _ _ _ (λ j k. term_over_places _ _ _ _ _ _ (room i j l k)))
    ∙ sym (sum_below-times_sum _ _ _ _)
