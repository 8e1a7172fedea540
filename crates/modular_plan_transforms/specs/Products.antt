-- Products of polynomials modulo X^n - c (Bernstein, "Multidigit multiplication for mathematicians", section 2).
-- The names are the library's own words.
use Rattle.std.specs.Prelude.{◌≡◌, ℕ, ◌+◌, ◌*◌, ◌%◌, ◌<◌, ◌==◌, if◌then◌else◌}
use Rattle.modular_word.specs.Sums.{sum_below}
use Rattle.modular_plan_passes.specs.Plans.{constant}

-- coefficient s of the product of the polynomials with the n coefficients x and the n coefficients y
abbrev pub coefficient : ℕ → (ℕ → ℕ) → (ℕ → ℕ) → ℕ → ℕ
coefficient n x y s = sum_below n (λ i. sum_below n (λ j. if i + j == s then x i * y j else 0))

-- coefficient e of their product modulo X^n - c
abbrev pub product_modulo : ℕ → ℕ → ℕ → (ℕ → ℕ) → (ℕ → ℕ) → ℕ → ℕ
product_modulo m n c x y e = (coefficient n x y e + c * coefficient n x y (e + n)) % m

-- the products in a list: from index j * last on, the product modulo X^last - c of the polynomials there, c being
-- the constant of block b * count + j
pub record AreProducts (m g z b count last : ℕ) (x y p : ℕ → ℕ) : Type 0 where
  pub each : (j i : ℕ) → j < count → i < last
      → p (j * last + i)
      ≡ product_modulo m last (constant g z (b * count + j)) (λ k. x (j * last + k)) (λ k. y (j * last + k)) i
