-- Horner's rule, on sums over a range, and on lists of coefficients.
use Rattle.std.proofs.Common.{◌≡◌, ℕ, zero, suc, ◌+◌, ◌-◌, ◌*◌, ◌%◌, ◌^◌, ◌≤◌, List, [], ◌∷◌, ◌++◌, length, slice_index}
use Rattle.std.proofs.Common.{get_or, ap, ◌∙◌, arith, add-one, length-append}
use Rattle.std.proofs.Math.ListN.{get_or-append}
use Rattle.std.proofs.Math.Nat.{pow-zero, pow-suc, mod-add-mod}
use Rattle.std.proofs.Math.Seq.{get_or-append_seam}
use Rattle.std.proofs.lemmas.Nat.{mul-mod_first}
use Rattle.modular_word.specs.Sums.{sum_below, polynomial_highest_first}
use Rattle.modular_word.proofs.Sums.{sum_below-zero, sum_below-first, sum_below-same}

pub sum_below-more : (f : ℕ → ℕ) (n : ℕ) → sum_below (n + 1) f ≡ sum_below n f + f n
unfolding sum_below
sum_below-more f n = ap (λ k. sum_below k f) (add-one n)

-- each power one higher
powers_raised : (n k : ℕ) (c : ℕ → ℕ) (x : ℕ) → k ≤ n
    → sum_below k (λ i. c i * x ^ (n + 1 - 1 - i)) ≡ sum_below k (λ i. c i * x ^ (n - 1 - i)) * x
unfolding sum_below
powers_raised n zero c x h = omega arith
powers_raised n (suc k) c x h =
    let e : x ^ (n + 1 - 1 - k) ≡ x ^ (n - 1 - k) * x = ap (λ j. x ^ j) (omega arith) ∙ pow-suc _ (n - 1 - k) in
    omega (arith, (powers_raised n k c x (omega arith)), (ap (λ j. c k * j) e))

-- one more coefficient
pub polynomial_of_next_coefficient : (n : ℕ) (c : ℕ → ℕ) (x : ℕ)
    → polynomial_highest_first (n + 1) c x ≡ polynomial_highest_first n c x * x + c n
polynomial_of_next_coefficient n c x =
    let e : c n * x ^ (n + 1 - 1 - n) ≡ c n * 1 = ap (λ j. c n * x ^ j) (omega arith)
    ∙ ap (λ j. c n * j) (pow-zero _) in
    omega (arith, sum_below-more (λ i. c i * x ^ (n + 1 - 1 - i)) n, powers_raised n n c x (omega arith), e)

-- with no coefficient the value is 0
pub empty_polynomial_is_zero : (x : ℕ) → polynomial_highest_first 0 (slice_index []) x ≡ 0
empty_polynomial_is_zero x = sum_below-zero (λ i. get_or [] i 0 * x ^ (0 - 1 - i))

-- with one more it is the value so far, times x, and the coefficient
pub polynomial_of_appended_coefficient : (cs : List ℕ) (c x : ℕ)
    → polynomial_highest_first (length (cs ++ c ∷ [])) (slice_index (cs ++ c ∷ [])) x
    ≡ polynomial_highest_first (length cs) (slice_index cs) x * x + c
polynomial_of_appended_coefficient cs c x =
    grind (
      arith,
      length,
      length-append,
      get_or,
      sum_below-same,
      get_or-append,
      polynomial_of_next_coefficient,
      get_or-append_seam,
    )

-- with one more in front it is its product by a power of x, and the value so far
pub value_first : (cs : List ℕ) (c x : ℕ)
    → polynomial_highest_first (length (c ∷ cs)) (slice_index (c ∷ cs)) x
    ≡ c * x ^ length cs + polynomial_highest_first (length cs) (slice_index cs) x
value_first cs c x = grind (arith, length, get_or, sum_below-same, sum_below-first)

-- one step of Horner's rule, modulo m
pub polynomial_residue_of_appended : (m : ℕ) (cs : List ℕ) (c x value product : ℕ)
    → value ≡ polynomial_highest_first (length cs) (slice_index cs) x % m → product ≡ (value * x) % m
    → (product + c) % m ≡ polynomial_highest_first (length (cs ++ c ∷ [])) (slice_index (cs ++ c ∷ [])) x % m
polynomial_residue_of_appended m cs c x value product e f =
    grind (arith, length, get_or, mul-mod_first, mod-add-mod, polynomial_of_appended_coefficient)

-- the laws of sums over ranges
pub ruleset ranges = (sum_below-zero, sum_below-more, polynomial_of_next_coefficient)
