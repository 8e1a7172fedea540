-- Polynomials times X.
use Rattle.std.specs.Prelude.{ℕ, zero, suc}

-- the coefficients of X times a polynomial
unfoldable pub shifted : (ℕ → ℕ) → ℕ → ℕ
shifted f zero = 0
shifted f (suc i) = f i
