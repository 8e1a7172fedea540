-- Montgomery's reduction in base b (Handbook of Applied Cryptography, section 14.3.2).
use Rattle.std.specs.Prelude.{◌≡◌, ℕ, ◌-◌, ◌*◌, ◌%◌, ◌<◌}

-- u is the reduction of t modulo m: below m, with u * b congruent to t
pub record IsReduction (b m t u : ℕ) : Type 0 where
  pub below : u < m
  pub congruent : (u * b) % m ≡ t % m

-- i is the negated inverse of m modulo b: m * i is congruent to -1
pub record IsNegatedInverse (b m i : ℕ) : Type 0 where
  pub product : (m * i) % b ≡ b - 1
