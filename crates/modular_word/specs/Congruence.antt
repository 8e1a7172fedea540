-- Congruence of whole numbers (Gauss, Disquisitiones Arithmeticae, article 1).
use Rattle.std.specs.Prelude.{◌≡◌, ℕ, ◌%◌}

-- a and b have the same remainder modulo m; modulo 0 they are equal
pub record Congruent (m a b : ℕ) : Type 0 where
  pub same : a % m ≡ b % m
