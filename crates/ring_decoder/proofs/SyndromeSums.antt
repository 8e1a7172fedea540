-- Power sums with weights: what their multiples by the coefficients of a polynomial add up to.
use Rattle.std.proofs.Common.{◌≡◌, ◌≢◌, ℕ, zero, suc, ◌+◌, ◌-◌, ◌*◌, ◌%◌, ◌^◌, ◌<◌, ◌≤◌, ap, sym, ◌∙◌, arith, inl, inr}
use Rattle.std.proofs.Math.Nat.{pow-zero, pow-suc, zero-add}
use Rattle.std.proofs.lemmas.Bool.{cases_eq}
use Rattle.std.proofs.lemmas.Nat.{pow-add}
use Rattle.num_modular.specs.Congruence.{Congruent}
use Rattle.num_modular.specs.NumberLaws.{mod_of_eq, mod_refl, mod_trans, mod_add, mod_mul}
use Rattle.num_modular.specs.NumberLaws.{sum_below-zero, sum_below-suc, sum_below-first, sum_below-same}
use Rattle.num_modular.specs.NumberLaws.{sum_below-congruent}
use Rattle.num_modular.specs.NumberLaws.{sum_below-mul, sum_below-exchanged, sum_below-of_zeros}
use Rattle.num_modular.specs.Polynomials.{polynomial_at}
use Rattle.num_modular.specs.Sums.{sum_below}
use Rattle.ring_decoder.specs.PowerSums.{ArePowerSums}
use Rattle.ring_codes.proofs.Congruences.{mod_of_combination, mod_of_residue, mod_times}
use Rattle.std.proofs.Common.{refl, add-one}

-- the coefficients p, each times a power sum from number h on, add up to the sum of the weights times x^h·p(x)
pub combined_power_sums_evaluate_polynomial : (m N n d h : ℕ) (x w t p : ℕ → ℕ) → ArePowerSums m N n x w t → h + d ≤ N
    → Congruent m (sum_below d (λ l. p l * t (h + l))) (sum_below n (λ i. w i * x i ^ h * polynomial_at d p (x i)))
combined_power_sums_evaluate_polynomial m N n d h x w t p are within =
    let f : ℕ → ℕ → ℕ = λ l i. w i * x i ^ h * (p l * x i ^ l) in
    let row : (l : ℕ) → p l * sum_below n (λ i. w i * x i ^ (h + l)) ≡ sum_below n (λ i. f l i) =
    λ l. sym (sum_below-mul n (p l) (λ i. w i * x i ^ (h + l)))
    ∙ sum_below-same n _ (λ i. f l i) (λ i b. rw (pow-add (x i) h l) (omega arith)) in
    mod_trans (sum_below-congruent d (λ l. p l * t (h + l)) (λ l. sum_below n (λ i. f l i))
    (λ l b. mod_trans (mod_times (p l) (are.sum (h + l) (omega arith))) (mod_of_eq (row l))))
    (mod_of_eq (sum_below-exchanged d n f
    ∙ sum_below-same n (λ i. sum_below d (λ l. f l i)) (λ i. w i * x i ^ h * polynomial_at d p (x i))
    (λ i b. sum_below-mul d (w i * x i ^ h) (λ l. p l * x i ^ l))))

-- terms that are 0 modulo m
pub sum_congruent_to_zero : (m n : ℕ) (f : ℕ → ℕ) → ((i : ℕ) → i < n → Congruent m (f i) 0)
    → Congruent m (sum_below n f) 0
sum_congruent_to_zero m n f none =
    mod_trans (sum_below-congruent n f (λ i. 0) none) (mod_of_eq (sum_below-of_zeros n (λ i. 0) (λ i l. refl)))

-- one term alone counts, where the others are congruent to 0
pub single_congruent : (m n k : ℕ) (f : ℕ → ℕ) → k < n → ((i : ℕ) → i < n → i ≢ k → Congruent m (f i) 0)
    → Congruent m (sum_below n f) (f k)
single_congruent m zero k f l none = absurd (omega arith)
single_congruent m (suc n) k f l none = elim (cases_eq k n) [
  | inl e ↦ mod_of_combination (sum_congruent_to_zero m n f (λ i t. none i (omega arith) (omega arith)))
      (omega (arith, sum_below-suc n f, ap f e))
  | inr other ↦
      mod_of_combination (mod_add (single_congruent m n k f (omega arith) (λ i t. none i (omega arith)))
      (none n (omega arith) (omega arith))) (omega (arith, sum_below-suc n f))
]

-- a polynomial that is 0 at all points but number j leaves the weight of that one
pub weight_alone : (m q j : ℕ) (x w t p : ℕ → ℕ) → ArePowerSums m q q x w t → j < q
    → ((i : ℕ) → i < q → i ≢ j → Congruent m (polynomial_at q p (x i)) 0)
    → Congruent m (sum_below q (λ l. p l * t l)) (w j * polynomial_at q p (x j))
weight_alone m q j x w t p are below none =
    mod_trans (mod_of_eq (sum_below-same q (λ l. p l * t l) (λ l. p l * t (0 + l)) (λ l b. rw (zero-add l) refl)))
    (mod_trans (combined_power_sums_evaluate_polynomial m q q q 0 x w t p are (omega arith))
    (mod_of_combination (single_congruent m q j (λ i. w i * x i ^ 0 * polynomial_at q p (x i)) below
    (λ i l other. mod_of_combination (mod_times (w i * x i ^ 0) (none i l other)) (omega arith)))
    (omega (arith, ap (λ v. w j * v * polynomial_at q p (x j)) (pow-zero (x j))))))

-- power sums with congruent weights
pub sums_alike : (m N n : ℕ) (x v w t : ℕ → ℕ) → ((i : ℕ) → i < n → Congruent m (v i) (w i))
    → ArePowerSums m N n x v t → ArePowerSums m N n x w t
sums_alike m N n x v w t same are = record {
  sum = λ h l. mod_trans (are.sum h l) (sum_below-congruent n (λ i. v i * x i ^ h) (λ i. w i * x i ^ h)
      (λ i b. mod_mul (same i b) (mod_refl (x i ^ h))));
}

-- the terms of a power sum: at the start, and from one sum to the next
pub terms_first : (m a x : ℕ) → Congruent m a (a * x ^ 0)
terms_first m a x = mod_of_eq (omega (arith, ap (λ v. a * v) (pow-zero x)))

pub terms_next : (m h new old a x : ℕ) → new ≡ (old * x) % m → Congruent m old (a * x ^ h)
    → Congruent m new (a * x ^ (h + 1))
terms_next m h new old a x is before =
    mod_of_combination (mod_add (mod_of_residue is) (mod_times x before))
    (omega (arith, ap (λ v. a * v) (ap (λ k. x ^ k) (add-one h) ∙ pow-suc x h)))

pub sum_of_terms : (m n h sum : ℕ) (x w terms : ℕ → ℕ) → ((i : ℕ) → i < n → Congruent m (terms i) (w i * x i ^ h))
    → sum ≡ sum_below n terms % m → sum ≡ sum_below n (λ i. w i * x i ^ h) % m
sum_of_terms m n h sum x w terms each is = is ∙ (sum_below-congruent n terms (λ i. w i * x i ^ h) each).same

-- a product of equal factors
pub product_of_equal : (m v a b c d : ℕ) → v ≡ (a * b) % m → a ≡ c → b ≡ d → v ≡ (c * d) % m
product_of_equal m v a b c d is left right = is ∙ ap (λ k. (k * b) % m) left ∙ ap (λ k. (c * k) % m) right
