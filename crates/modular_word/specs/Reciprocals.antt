-- What is precomputed of a divisor, so that dividing by it needs no division. The words have w bits, and b is the
-- base 2^w.
use Rattle.std.specs.Prelude.{◌≡◌, ℕ, ◌+◌, ◌-◌, ◌*◌, ◌/◌, ◌%◌, ◌^◌, ◌<◌, ◌≤◌}

-- v is the reciprocal of d, whose top bit is set: (v + b) * d is b * b - k for a k from 1 to d (Möller and
-- Granlund, "Improved division by invariant integers", section 3)
pub record IsReciprocal (b d v : ℕ) : Type 0 where
  pub normalized : b ≤ 2 * d
  pub below : (v + b) * d < b * b
  pub close : b * b ≤ (v + b) * d + d

-- the multiplier and the shift divide by d: with n = shift + 1, d * (b + multiplier) is b * 2^n + k for a k from 1 to d
-- (Granlund and Montgomery, "Division by invariant integers using multiplication", section 4)
pub record IsMultiplier (w b d multiplier shift : ℕ) : Type 0 where
  pub shift_fits : shift < w
  pub above : 2 ^ shift < d
  pub at_most : d ≤ 2 * 2 ^ shift
  pub more : b * (2 * 2 ^ shift) < d * (b + multiplier)
  pub close : d * (b + multiplier) ≤ b * (2 * 2 ^ shift) + d

-- the inverse of d modulo b, and the greatest quotient of a word by d
-- (Granlund and Montgomery, "Division by invariant integers using multiplication", section 9)
pub record IsExactDivisor (b d inverse limit : ℕ) : Type 0 where
  pub unit : (d * inverse) % b ≡ 1
  pub greatest : limit ≡ (b - 1) / d
