-- Coefficients of products modulo m: their terms, and the words of the sums.
use Rattle.std.proofs.Common.{◌≡◌, ℕ, ◌+◌, ◌-◌, ◌*◌, ◌/◌, ◌%◌, ◌<◌, ◌≤◌, List, length, get_or, ◌∙◌, ap, arith, add-one}
use Rattle.std.proofs.Math.Nat.{mul-le-mul}
use Rattle.std.proofs.lemmas.List.{get_or_past}
use Rattle.num_modular.specs.Sums.{sum_below}
use Rattle.num_modular.specs.NumberLaws.{sum_below-suc, sum_below-of_zeros, residue_of, mod_add, mod_mul, mod_refl}
use Rattle.num_modular.specs.SumLaws.{tail}

-- the high words are reduced first
remainder_by_upper_word : (m low high top : ℕ) → top ≡ (high + low / 18446744073709551616) % m
    → (top * 18446744073709551616 + low % 18446744073709551616) % m ≡ (low + high * 18446744073709551616) % m
remainder_by_upper_word m low high top is =
    let b : ℕ = 18446744073709551616 in
    ap (λ t. (t * b + low % b) % m) is
    ∙ (mod_add (mod_mul (residue_of (high + low / b)) (mod_refl b)) (mod_refl (low % b))).same
    ∙ ap (λ v. v % m) (omega arith)

-- two words are reduced one by one ..
pub by_words : (m t top r : ℕ) → top ≡ t / 18446744073709551616 % m
    → r ≡ (top * 18446744073709551616 + t % 18446744073709551616) % m → r ≡ t % m
by_words m t top r top_is is = grind (arith, remainder_by_upper_word m t 0 top)

-- .. and a sum of words, by its upper ones
pub by_upper_words : (m low high upper r : ℕ) → upper ≡ (high + low / 18446744073709551616) % m
    → r ≡ (upper * 18446744073709551616 + low % 18446744073709551616) % m
    → r ≡ (low + high * 18446744073709551616) % m
by_upper_words m low high upper r upper_is is = is ∙ remainder_by_upper_word m low high upper upper_is

-- the terms of which the second factor has no coefficient
pub no_front : (xs ys : List ℕ) (e n : ℕ) → (0 < n → n + length ys ≤ e + 1)
    → sum_below n (λ i. get_or xs i 0 * get_or ys (e - i) 0) ≡ 0
no_front xs ys e n few = search (arith, sum_below-of_zeros, get_or_past)

-- the terms of which the first has none
pub no_back : (xs ys : List ℕ) (e n : ℕ) → n ≤ e + 1 → (n < e + 1 → length xs ≤ n)
    → sum_below n (λ i. get_or xs i 0 * get_or ys (e - i) 0)
    ≡ sum_below (e + 1) (λ i. get_or xs i 0 * get_or ys (e - i) 0)
no_back xs ys e n few past =
    let whole : n + (e + 1 - n) ≡ e + 1 = omega arith in
    search (arith, tail, get_or_past)

-- one term more
pub more_terms : (low high i x y : ℕ) (f : ℕ → ℕ) → f i ≡ x * y
    → low + high * 18446744073709551616 ≡ sum_below i f
    → low + x * y % 18446744073709551616 + (high + x * y / 18446744073709551616) * 18446744073709551616
    ≡ sum_below (i + 1) f
more_terms low high i x y f is before =
    omega (arith, ap (λ n. sum_below n f) (add-one i), sum_below-suc i f, is, before)

-- a product of words, and its high word
pub words_fit : (x y : ℕ) → x < 18446744073709551616 → y < 18446744073709551616
    → x * y ≤ 18446744073709551615 * 18446744073709551615
words_fit x y l k = search (arith, mul-le-mul)

pub high_word : (x y : ℕ) → x < 18446744073709551616 → y < 18446744073709551616
    → x * y / 18446744073709551616 ≤ 18446744073709551615
high_word x y l k = let m = words_fit x y l k in omega (arith, m)

-- a residue and c times another
pub folded_residues : (m c a b r s : ℕ) → r ≡ a % m → s ≡ b % m → (r + c * s) % m ≡ (a + c * b) % m
folded_residues m c a b r s is_a is_b =
    ap (λ v. (v + c * s) % m) is_a ∙ ap (λ v. (a % m + c * v) % m) is_b
    ∙ (mod_add (residue_of a) (mod_mul (mod_refl c) (residue_of b))).same

-- .. where c is 0
pub residue_without_second_term : (m c a b : ℕ) → c ≡ 0 → a % m ≡ (a + c * b) % m
residue_without_second_term m c a b none = search arith

-- .. and sums of products whose second factors are reduced
pub reduced_factors : (m a s t p q f g : ℕ) → f ≡ p % m → g ≡ q % m
    → (a + s * f + t * g) % m ≡ (a + s * p + t * q) % m
reduced_factors m a s t p q f g is_f is_g =
    ap (λ v. (a + s * v + t * g) % m) is_f ∙ ap (λ v. (a + s * (p % m) + t * v) % m) is_g
    ∙ (mod_add (mod_add (mod_refl a) (mod_mul (mod_refl s) (residue_of p))) (mod_mul (mod_refl t) (residue_of q))).same

-- .. and a product whose first factor is reduced
pub reduced_product : (m p q f r : ℕ) → f ≡ p % m → r ≡ f * q % m → r ≡ p * q % m
reduced_product m p q f r is_f is = is ∙ ap (λ v. v * q % m) is_f ∙ (mod_mul (residue_of p) (mod_refl q)).same

pub same_remainder : (m a b : ℕ) → a ≡ b → a % m ≡ b % m
same_remainder m a b is = ap (λ v. v % m) is
