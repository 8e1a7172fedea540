-- Factors with a precomputed quotient (Shoup; Harvey, "Faster arithmetic for number-theoretic transforms", section 3).
use Rattle.std.specs.Prelude.{◌≡◌, ℕ, ◌*◌, ◌/◌, ◌<◌}

-- w is a factor modulo m, and q its quotient w * b / m, rounded down, with b the base
pub record IsFactor (b m w q : ℕ) : Type 0 where
  pub below : w < m
  pub quotient : q ≡ w * b / m
