-- Sums over a range: one term, and terms of 0 at the end. The names are the library's own words.
use Rattle.std.proofs.Common.{◌≡◌, ◌≢◌, ℕ, zero, suc, ◌+◌, ◌<◌, ◌≤◌, ap, arith, inl, inr}
use Rattle.std.proofs.lemmas.Bool.{cases_eq}
use Rattle.modular_word.specs.Sums.{sum_below}
use Rattle.modular_word.proofs.Sums.{sum_below-suc, sum_below-joined, sum_below-of_zeros}

-- one term alone counts
pub single : (n k : ℕ) (f : ℕ → ℕ) → k < n → ((i : ℕ) → i < n → i ≢ k → f i ≡ 0) → sum_below n f ≡ f k
single zero k f l none = absurd (omega arith)
single (suc n) k f l none =
    let d = sum_below-suc n f in
    elim (cases_eq k n) [
      | inl e ↦
          let z = sum_below-of_zeros n f (λ i t. none i (omega arith) (omega arith)) in
          let s = ap f e in
          omega (arith, d, z, s)
      | inr other ↦
          let i = single n k f (omega arith) (λ i t. none i (omega arith)) in
          let z = none n (omega arith) (omega arith) in
          omega (arith, d, i, z)
    ]

-- terms of 0 at the end
pub tail : (n d : ℕ) (f : ℕ → ℕ) → ((i : ℕ) → n ≤ i → i < n + d → f i ≡ 0) → sum_below (n + d) f ≡ sum_below n f
tail n d f none =
    let whole = sum_below-joined n d f in
    let z = sum_below-of_zeros d (λ i. f (n + i)) (λ i l. none (n + i) (omega arith) (omega arith)) in
    omega (arith, whole, z)
