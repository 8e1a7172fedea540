-- The remainders of a product are the products of the remainders.
use Rattle.std.proofs.Common.{◌≡◌, ◌≢◌, ℕ, suc, zero, ◌+◌, ◌-◌, ◌*◌, ◌/◌, ◌^◌, ◌<◌, Bool}
use Rattle.std.proofs.Common.{true, false, inl, inr, sym, ◌∙◌, ap, arith, eqb, cond}
use Rattle.std.proofs.Math.Nat.{pow-zero, mul_comm}
use Rattle.std.proofs.lemmas.Bool.{cases_eq, cases_lt}
use Rattle.std.proofs.lemmas.Nat.{pow-add, div-mul-add}
use Rattle.modular_word.specs.Congruence.{Congruent}
use Rattle.modular_word.specs.Sums.{sum_below}
use Rattle.modular_word.proofs.Congruence.{mod_of_eq, mod_refl, mod_sym, mod_trans, mod_add, mod_mul, residue_of}
use Rattle.modular_word.proofs.Powers.{pow-one}
use Rattle.modular_word.proofs.Sums.{sum_below-zero, sum_below-suc, sum_below-same, sum_below-congruent, sum_below-add}
use Rattle.modular_word.proofs.Sums.{sum_below-joined, sum_below-of_zeros, sum_below-exchanged, sum_below-times_sum}
use Rattle.modular_transform.proofs.CyclicProducts.{outermost_sum_becomes_innermost, factor_out_of_double_sum}
use Rattle.modular_transform.proofs.PolynomialProducts.{equal_places_keep_value, at_other}
use Rattle.modular_plan_transforms.specs.Products.{coefficient, product_modulo}

-- at most one term counts
sum_only : (n z : ℕ) (f : ℕ → ℕ) → z < n → ((i : ℕ) → i < n → i ≢ z → f i ≡ 0) → sum_below n f ≡ f z
sum_only zero z f l others = absurd (omega arith)
sum_only (suc n) z f l others =
    let d = sum_below-suc n f in
    elim (cases_eq z n) [
      | inl is ↦ grind (arith, d, sum_below-of_zeros)
      | inr ne ↦ grind (arith, d, sum_only n z f)
    ]

-- a sum by blocks
by_blocks : (count last : ℕ) (f : ℕ → ℕ)
    → sum_below (count * last) f ≡ sum_below count (λ k. sum_below last (λ a. f (k * last + a)))
by_blocks zero last f = grind (arith, sum_below-zero)
by_blocks (suc count) last f =
    let e : suc count * last ≡ count * last + last = omega arith in
    ap (λ n. sum_below n f) e ∙ sum_below-joined (count * last) last f
    ∙ ap (λ v. v + sum_below last (λ a. f (count * last + a))) (by_blocks count last f)
    ∙ sym (sum_below-suc count (λ k. sum_below last (λ a. f (k * last + a))))

-- .. and a sum over two places
two_by_blocks : (count last : ℕ) (f : ℕ → ℕ → ℕ) → sum_below (count * last) (λ i. sum_below (count * last) (λ j. f i j))
    ≡ sum_below last
    (λ a. sum_below last (λ d. sum_below count (λ k. sum_below count (λ l. f (k * last + a) (l * last + d)))))
two_by_blocks count last f =
    sum_below-same _ _ _ (λ i l. by_blocks count last (f i)) ∙ by_blocks count last _
    ∙ sum_below-exchanged count last _
    ∙ sum_below-same _ _ _ (λ a t. sum_below-same _ _ _ (λ k t. sum_below-exchanged count last _)
    ∙ sum_below-exchanged count last (λ k d. sum_below count (λ l. f (k * last + a) (l * last + d))))

-- quotient and remainder are unique
same_block : (last k i s t : ℕ) → i < last → t < last → s * last + t ≡ k * last + i → k ≡ s
same_block last k i s t li lt e = sym (div-mul-add k last i li) ∙ ap (λ v. v / last) (sym e) ∙ div-mul-add s last t lt

same_column : (last k i s t : ℕ) → i < last → t < last → s * last + t ≡ k * last + i → t ≡ i
same_column last k i s t li lt e =
    let b = ap (λ v. v * last) (same_block last k i s t li lt e) in
    omega (arith, b, e)

-- X^(s * last + t) modulo X^last - c
term_at : (last i s t n place : ℕ) (f : ℕ → ℕ) → i < last → t < last → s < n → place ≡ s * last + t
    → sum_below n (λ k. cond (eqb place (k * last + i)) (f k) 0) ≡ cond (eqb t i) (f s) 0
term_at last i s t n place f li lt ls is = elim (cases_eq t i) [
  | inl e ↦
      let at : place ≡ s * last + i = omega (arith, is, e) in
      sum_only n s (λ k. cond (eqb place (k * last + i)) (f k) 0) ls
      (λ k l ne. at_other place (k * last + i) (f k) (λ h. ne (same_block last k i s t li lt (sym is ∙ h))))
      ∙ equal_places_keep_value place (s * last + i) (f s) at ∙ sym (equal_places_keep_value t i (f s) e)
  | inr ne ↦
      sum_below-of_zeros n (λ k. cond (eqb place (k * last + i)) (f k) 0)
      (λ k l. at_other place (k * last + i) (f k) (λ h. ne (same_column last k i s t li lt (sym is ∙ h))))
      ∙ sym (at_other t i (f s) ne)
]

-- .. for two exponents below last, whose sum s is given
term_of_two : (last i s t n place : ℕ) (f : ℕ → ℕ) → i < last → t < last + last → s + 1 < n → place ≡ s * last + t
    → sum_below n (λ k. cond (eqb place (k * last + i)) (f k) 0)
    ≡ cond (eqb t i) (f s) 0 + cond (eqb t (i + last)) (f (s + 1)) 0
term_of_two last i s t n place f li lt ls is = elim (cases_lt t last) [
  | inl l ↦
      let none = at_other t (i + last) (f (s + 1)) (omega arith) in
      let one = term_at last i s t n place f li l (omega arith) is in
      omega (arith, none, one)
  | inr l ↦
      let r : ℕ = t - last in
      let at : place ≡ (s + 1) * last + r = omega (arith, is) in
      let none = at_other t i (f s) (omega arith) in
      let one = term_at last i (s + 1) r n place f li (omega arith) ls at in
      let same : cond (eqb r i) (f (s + 1)) 0 ≡ cond (eqb t (i + last)) (f (s + 1)) 0 = grind arith in
      omega (arith, none, one, same)
]

-- a factor of a term
factor_moves_into_term : (s e c v : ℕ) → c * cond (eqb s e) v 0 ≡ cond (eqb s e) (v * c) 0
factor_moves_into_term s e c v = grind arith

-- a coefficient times a number, term by term
scaled_coefficient : (n s c : ℕ) (x y : ℕ → ℕ)
    → coefficient n x y s * c ≡ sum_below n (λ i. sum_below n (λ j. cond (eqb (i + j) s) (x i * y j * c) 0))
scaled_coefficient n s c x y =
    let t = λ (i j : ℕ). cond (eqb (i + j) s) (x i * y j) 0 in
    mul_comm _ c ∙ sym (factor_out_of_double_sum n n c t)
    ∙ sum_below-same _ _ _ (λ i l. sum_below-same _ _ _ (λ j h. factor_moves_into_term (i + j) s c (x i * y j)))

-- four sums, term by term
quadruple_sums_of_equal_terms : (count last : ℕ) (f h : ℕ → ℕ → ℕ → ℕ → ℕ)
    → ((a d k l : ℕ) → a < last → d < last → k < count → l < count → f a d k l ≡ h a d k l)
    → sum_below last (λ a. sum_below last (λ d. sum_below count (λ k. sum_below count (λ l. f a d k l))))
    ≡ sum_below last (λ a. sum_below last (λ d. sum_below count (λ k. sum_below count (λ l. h a d k l))))
quadruple_sums_of_equal_terms count last f h same = search (arith, sum_below-same)

sum_of_four : (count last : ℕ) (f h : ℕ → ℕ → ℕ → ℕ → ℕ)
    → sum_below last (λ a. sum_below last (λ d. sum_below count (λ k. sum_below count (λ l. f a d k l + h a d k l))))
    ≡ sum_below last (λ a. sum_below last (λ d. sum_below count (λ k. sum_below count (λ l. f a d k l))))
    + sum_below last (λ a. sum_below last (λ d. sum_below count (λ k. sum_below count (λ l. h a d k l))))
sum_of_four count last f h =
    let two = λ (t : ℕ → ℕ → ℕ → ℕ → ℕ) (a d : ℕ). sum_below count (λ k. sum_below count (λ l. t a d k l)) in
    sum_below-same _ _ _ (λ a la. sum_below-same _ _ _ (λ d ld. sum_below-same _ _ _
    (λ k lk. sum_below-add count (f a d k) (h a d k)) ∙ sum_below-add count _ _)
    ∙ sum_below-add last (λ d. two f a d) (λ d. two h a d))
    ∙ sum_below-add last (λ a. sum_below last (λ d. two f a d)) (λ a. sum_below last (λ d. two h a d))

-- the terms of a product of two sums, where a test holds
tested_sums : (b : Bool) (count c : ℕ) (f h : ℕ → ℕ) → c * cond b (sum_below count f * sum_below count h) 0
    ≡ sum_below count (λ k. sum_below count (λ l. cond b (f k * h l * c) 0))
tested_sums true count c f h =
    ap (λ v. c * v) (sum_below-times_sum count count f h)
    ∙ sym (factor_out_of_double_sum count count c (λ k l. f k * h l))
    ∙ sum_below-same _ _ _ (λ k t. sum_below-same _ _ _ (λ l s. mul_comm c (f k * h l)))
tested_sums false count c f h = grind (arith, sum_below-of_zeros)

-- three powers of c in one
three_powers_join : (c k l e v w : ℕ) → v * c ^ k * (w * c ^ l) * c ^ e ≡ v * w * c ^ (k + l + e)
three_powers_join c k l e v w =
    rw (pow-add c (k + l) e) (rw (pow-add c k l) (omega arith))

-- a coefficient of the product of two remainders
coefficient_of_remainders : (count last c s e : ℕ) (x y : ℕ → ℕ)
    → c ^ e * coefficient last (λ a. sum_below count (λ k. x (k * last + a) * c ^ k))
    (λ d. sum_below count (λ l. y (l * last + d) * c ^ l)) s
    ≡ sum_below last (λ a. sum_below last (λ d. sum_below count
    (λ k. sum_below count (λ l. cond (eqb (a + d) s) (x (k * last + a) * y (l * last + d) * c ^ (k + l + e)) 0))))
coefficient_of_remainders count last c s e x y =
    let u = λ (a : ℕ). sum_below count (λ k. x (k * last + a) * c ^ k) in
    let v = λ (d : ℕ). sum_below count (λ l. y (l * last + d) * c ^ l) in
    sym (factor_out_of_double_sum last last (c ^ e) (λ a d. cond (eqb (a + d) s) (u a * v d) 0))
    ∙ sum_below-same _ _ _ (λ a la. sum_below-same _ _ _
    (λ d ld. tested_sums (eqb (a + d) s) count (c ^ e) (λ k. x (k * last + a) * c ^ k) (λ l. y (l * last + d) * c ^ l)
    ∙ sum_below-same _ _ _ (λ k lk. sum_below-same _ _ _ (λ l ll. ap (λ n. cond (eqb (a + d) s) n 0)
    (three_powers_join c k l e (x (k * last + a)) (y (l * last + d)))))))

-- the coefficients of a product in the product_in_column i, by the powers of c
product_in_column : (count last c i : ℕ) (x y : ℕ → ℕ) → i < last
    → sum_below (count + count) (λ k. coefficient (count * last) x y (k * last + i) * c ^ k)
    ≡ coefficient last (λ a. sum_below count (λ k. x (k * last + a) * c ^ k))
    (λ d. sum_below count (λ l. y (l * last + d) * c ^ l)) i
    + c * coefficient last (λ a. sum_below count (λ k. x (k * last + a) * c ^ k))
    (λ d. sum_below count (λ l. y (l * last + d) * c ^ l)) (i + last)
product_in_column count last c i x y li =
    let n = count * last in
    let u = λ (a : ℕ). sum_below count (λ k. x (k * last + a) * c ^ k) in
    let v = λ (d : ℕ). sum_below count (λ l. y (l * last + d) * c ^ l) in
    let f = λ (i' j k : ℕ). cond (eqb (i' + j) (k * last + i)) (x i' * y j * c ^ k) 0 in
    let inner = λ (i' j : ℕ). sum_below (count + count) (λ k. f i' j k) in
    let low = λ (a d k l : ℕ). cond (eqb (a + d) i) (x (k * last + a) * y (l * last + d) * c ^ (k + l + 0)) 0 in
    let high =
    λ (a d k l : ℕ). cond (eqb (a + d) (i + last)) (x (k * last + a) * y (l * last + d) * c ^ (k + l + 1)) 0 in
    let four = λ (t : ℕ → ℕ → ℕ → ℕ → ℕ).
    sum_below last (λ a. sum_below last (λ d. sum_below count (λ k. sum_below count (λ l. t a d k l)))) in
    let left : sum_below (count + count) (λ k. coefficient n x y (k * last + i) * c ^ k)
    ≡ four (λ a d k l. inner (k * last + a) (l * last + d)) =
    sum_below-same _ _ _ (λ k l. scaled_coefficient n (k * last + i) (c ^ k) x y)
    ∙ outermost_sum_becomes_innermost (count + count) n f ∙ two_by_blocks count last inner in
    let middle : four (λ a d k l. inner (k * last + a) (l * last + d)) ≡ four (λ a d k l. low a d k l + high a d k l) =
    quadruple_sums_of_equal_terms count last (λ a d k l. inner (k * last + a) (l * last + d))
    (λ a d k l. low a d k l + high a d k l)
    (λ a d k l la ld lk ll.
    let place : k * last + a + (l * last + d) ≡ (k + l) * last + (a + d) = omega arith in
    let zero_more : k + l + 0 ≡ k + l = omega arith in
    term_of_two last i (k + l) (a + d) (count + count) (k * last + a + (l * last + d))
    (λ e. x (k * last + a) * y (l * last + d) * c ^ e) li (omega arith) (omega arith) place
    ∙ ap (λ e. cond (eqb (a + d) i) (x (k * last + a) * y (l * last + d) * c ^ e) 0 + high a d k l) (sym zero_more)) in
    let q0 = rw (pow-zero c) at (coefficient_of_remainders count last c i 0 x y) in
    let q1 = rw (pow-one c) at (coefficient_of_remainders count last c (i + last) 1 x y) in
    left ∙ middle ∙ sum_of_four count last low high ∙ omega (arith, q0, q1)

-- what is congruent where a test holds
tested_congruent : {m a e : ℕ} (b : Bool) → Congruent m a e → Congruent m (cond b a 0) (cond b e 0)
tested_congruent {m} {a} {e} true h = h
tested_congruent {m} {a} {e} false h = mod_refl 0

-- a term of the product modulo X^n - d, by its two coefficients
term_folded : {m : ℕ} (count last c d i k : ℕ) (x y : ℕ → ℕ) → Congruent m (c ^ count) d
    → Congruent m (product_modulo m (count * last) d x y (k * last + i) * c ^ k)
    (coefficient (count * last) x y (k * last + i) * c ^ k
    + coefficient (count * last) x y ((count + k) * last + i) * c ^ (count + k))
term_folded {m} count last c d i k x y power =
    let n = count * last in
    let a = coefficient n x y (k * last + i) in
    let b = coefficient n x y (k * last + i + n) in
    let place : k * last + i + n ≡ (count + k) * last + i = omega arith in
    let spread : (a + c ^ count * b) * c ^ k ≡ a * c ^ k + b * (c ^ count * c ^ k) = omega arith in
    mod_trans (mod_mul (mod_trans (residue_of (a + d * b)) (mod_add (mod_refl a)
    (mod_mul (mod_sym power) (mod_refl b))))
    (mod_refl (c ^ k)))
    (mod_of_eq (spread ∙ ap (λ v. a * c ^ k + b * v) (sym (pow-add c count k))
    ∙ ap (λ v. a * c ^ k + coefficient n x y v * c ^ (count + k)) place))

-- a sum of congruent coefficients
coefficient-congruent : {m : ℕ} (n s : ℕ) (x y u v : ℕ → ℕ) → ((i : ℕ) → i < n → Congruent m (x i) (u i))
    → ((j : ℕ) → j < n → Congruent m (y j) (v j))
    → Congruent m (coefficient n x y s) (coefficient n u v s)
coefficient-congruent {m} n s x y u v first second = search (arith, sum_below-congruent, tested_congruent, mod_mul)

-- a product modulo X^n - d, in the product_in_column i: the product of the remainders modulo X^last - c, where c to the
-- count is d
pub column_of_product : {m : ℕ} (count last c d i : ℕ) (x y u v : ℕ → ℕ) → i < last → Congruent m (c ^ count) d
    → ((a : ℕ) → a < last → Congruent m (u a) (sum_below count (λ k. x (k * last + a) * c ^ k)))
    → ((a : ℕ) → a < last → Congruent m (v a) (sum_below count (λ l. y (l * last + a) * c ^ l)))
    → Congruent m (product_modulo m last c u v i)
    (sum_below count (λ k. product_modulo m (count * last) d x y (k * last + i) * c ^ k))
column_of_product {m} count last c d i x y u v li power first second =
    let n = count * last in
    let p = λ (k : ℕ). coefficient n x y (k * last + i) * c ^ k in
    let q = λ (k : ℕ). p (count + k) in
    let whole : Congruent m (product_modulo m last c u v i) (sum_below (count + count) p) =
    mod_trans (residue_of _) (mod_trans (mod_add (coefficient-congruent last i u v _ _ first second)
    (mod_mul (mod_refl c) (coefficient-congruent last (i + last) u v _ _ first second)))
    (mod_of_eq (sym (product_in_column count last c i x y li)))) in
    mod_trans whole (mod_trans (mod_of_eq (sum_below-joined count count p ∙ sym (sum_below-add count p q)))
    (sum_below-congruent count _ _ (λ k l. mod_sym (term_folded count last c d i k x y power))))
