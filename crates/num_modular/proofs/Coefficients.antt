-- The entries of a cyclic product with room are the coefficients of the product of polynomials.
use Rattle.std.proofs.Common.{◌≡◌, ◌≢◌, ℕ, ◌+◌, ◌-◌, ◌*◌, ◌%◌, ◌<◌, ◌≤◌, List, length}
use Rattle.std.proofs.Common.{get_or, cond, eqb, ◌||◌, ap, ◌∙◌, arith, inl, inr}
use Rattle.std.proofs.Math.Nat.{mod-eq_of_lt, mul-le-mul, mul-le-mul_right}
use Rattle.std.proofs.lemmas.Bool.{cases_lt}
use Rattle.std.proofs.lemmas.Bool.Decides.{eqb_tells}
use Rattle.std.proofs.lemmas.List.{get_or_past}
use Rattle.modular_word.specs.Sums.{sum_below}
use Rattle.modular_word.proofs.Sums.{sum_below-same, sum_below-of_zeros, sum_below-bounded}
use Rattle.modular_transform.specs.Transforms.{cyclic_product}
use Rattle.num_modular.specs.SumLaws.{single, tail}

-- a term at its place ..
term_at_place_is_kept : (n s e v : ℕ) → s ≡ e → cond (eqb s e || eqb s (e + n)) v 0 ≡ v
term_at_place_is_kept n s e v is = elim (eqb_tells s e) [ inl p ↦ rw p.0 (omega arith) | inr p ↦ absurd (p.1 is) ]

-- .. and elsewhere, where there is room
term_elsewhere_is_zero : (n s e v : ℕ) → (n ≤ s → v ≡ 0) → s ≢ e → cond (eqb s e || eqb s (e + n)) v 0 ≡ 0
term_elsewhere_is_zero n s e v room other = search (arith, eqb_tells)

-- the terms of x i
cyclic_row_is_one_product : (n e i : ℕ) (x y : ℕ → ℕ) → e < n → i < n → ((i j : ℕ) → i < n → j < n → n ≤ i + j
    → x i * y j ≡ 0) → i ≤ e
    → sum_below n (λ j. cond (eqb (i + j) e || eqb (i + j) (e + n)) (x i * y j) 0) ≡ x i * y (e - i)
cyclic_row_is_one_product n e i x y below within room l =
    let at_e : i + (e - i) ≡ e = omega arith in
    single n (e - i) (λ j. cond (eqb (i + j) e || eqb (i + j) (e + n)) (x i * y j) 0) (omega arith)
    (λ j k other. term_elsewhere_is_zero n (i + j) e (x i * y j) (room i j within k) (omega arith))
    ∙ term_at_place_is_kept n (i + (e - i)) e (x i * y (e - i)) at_e

no_row : (n e i : ℕ) (x y : ℕ → ℕ) → i < n → ((i j : ℕ) → i < n → j < n → n ≤ i + j → x i * y j ≡ 0) → e < i
    → sum_below n (λ j. cond (eqb (i + j) e || eqb (i + j) (e + n)) (x i * y j) 0) ≡ 0
no_row n e i x y within room l = search (arith, sum_below-of_zeros, term_elsewhere_is_zero)

-- entry e
pub cyclic_coefficient_is_linear : (m n s t e : ℕ) (x y : ℕ → ℕ) → ((i : ℕ) → i < n → x i ≤ s)
    → ((j : ℕ) → j < n → y j ≤ t) → n * (s * t) < m
    → ((i j : ℕ) → i < n → j < n → n ≤ i + j → x i * y j ≡ 0) → e < n
    → cyclic_product m n x y e ≡ sum_below (e + 1) (λ i. x i * y (e - i))
cyclic_coefficient_is_linear m n s t e x y few few_y small room below =
    let f = λ (i : ℕ). sum_below n (λ j. cond (eqb (i + j) e || eqb (i + j) (e + n)) (x i * y j) 0) in
    let d : ℕ = n - (e + 1) in
    let whole : n ≡ e + 1 + d = omega arith in
    let sum : sum_below n f ≡ sum_below (e + 1) (λ i. x i * y (e - i)) =
    ap (λ k. sum_below k f) whole ∙ tail (e + 1) d f (λ i a b. no_row n e i x y (omega arith) room (omega arith))
    ∙ sum_below-same (e + 1) f (λ i. x i * y (e - i)) (λ i l. cyclic_row_is_one_product n e i x y below (omega arith)
    room (omega arith)) in
    let each : (i : ℕ) → i < e + 1 → x i * y (e - i) ≤ s * t =
    λ i l. mul-le-mul (few i (omega arith)) (few_y (e - i) (omega arith)) in
    let most = sum_below-bounded (e + 1) (s * t) (λ i. x i * y (e - i)) each in
    search (arith, mul-le-mul_right, mod-eq_of_lt)

-- the entries of lists, and 0 after them
entry_product_past_is_zero : (xs ys : List ℕ) (n i j : ℕ) → length xs + length ys ≤ n + 1 → n ≤ i + j
    → get_or xs i 0 * get_or ys j 0 ≡ 0
entry_product_past_is_zero xs ys n i j few beyond = search (arith, cases_lt, get_or_past)

-- entry e, where the values are those of two lists of coefficients
pub coefficient_of_lists : (m n s t e : ℕ) (xs ys : List ℕ) (x y : ℕ → ℕ)
    → ((i : ℕ) → i < n → x i ≡ get_or xs i 0 % m) → ((j : ℕ) → j < n → y j ≡ get_or ys j 0 % m)
    → ((i : ℕ) → get_or xs i 0 ≤ s) → ((j : ℕ) → get_or ys j 0 ≤ t) → s < m → t < m → n * (s * t) < m
    → length xs + length ys ≤ n + 1 → e < n
    → cyclic_product m n x y e ≡ sum_below (e + 1) (λ i. get_or xs i 0 * get_or ys (e - i) 0)
coefficient_of_lists m n s t e xs ys x y loaded loaded_y few few_y below_s below_t small room below =
    let is_x : (i : ℕ) → i < n → x i ≡ get_or xs i 0 =
    λ i l. loaded i l ∙ mod-eq_of_lt (let f = few i in omega arith) in
    let is_y : (j : ℕ) → j < n → y j ≡ get_or ys j 0 =
    λ j l. loaded_y j l ∙ mod-eq_of_lt (let f = few_y j in omega arith) in
    let product : (i j : ℕ) → i < n → j < n → x i * y j ≡ get_or xs i 0 * get_or ys j 0 =
    λ i j k l. ap (λ v. v * y j) (is_x i k) ∙ ap (λ v. get_or xs i 0 * v) (is_y j l) in
    cyclic_coefficient_is_linear m n s t e x y (λ i l. let f = few i in let g = is_x i l in omega arith)
    (λ j l. let f = few_y j in let g = is_y j l in omega arith)
    small (λ i j k l beyond. product i j k l ∙ entry_product_past_is_zero xs ys n i j room beyond) below
    ∙ sum_below-same (e + 1) (λ i. x i * y (e - i)) (λ i. get_or xs i 0 * get_or ys (e - i) 0)
    (λ i l. product i (e - i) (omega arith) (omega arith))
