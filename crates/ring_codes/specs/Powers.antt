-- Points that are the powers of one number, as those of Reed and Solomon's codes in their first form (Reed and Solomon,
-- "Polynomial codes over certain finite fields", 1960).
use Rattle.std.specs.Prelude.{◌≡◌, ℕ, ◌%◌, ◌^◌, ◌<◌}

-- the points 0 to n - 1 are g^0, .., g^(n - 1) modulo m
pub record ArePowers (m g n : ℕ) (points : ℕ → ℕ) : Type 0 where
  pub power : (i : ℕ) → i < n → points i ≡ g ^ i % m
