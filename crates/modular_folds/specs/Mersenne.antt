-- Moduli of the form 2^p - k, of which the Mersenne numbers 2^p - 1 are the first
-- (Handbook of Applied Cryptography, section 14.3.4; Crandall and Pomerance, Prime Numbers, section 9.2.3).
use Rattle.std.specs.Prelude.{◌≡◌, ℕ, ◌-◌, ◌*◌, ◌%◌, ◌^◌, ◌<◌, ◌≤◌}

-- p and k are in range for moduli of w bits: p is at most w, and k is odd and less than half of 2^p
pub record IsMersenneRange (w p k : ℕ) : Type 0 where
  pub fits : p ≤ w
  pub odd : k % 2 ≡ 1
  pub half : 2 * k < 2 ^ p

-- the modulus
abbrev pub mersenne : ℕ → ℕ → ℕ
mersenne p k = 2 ^ p - k

-- m is the modulus of p and k, which are in range
pub record IsMersenne (w p k m : ℕ) : Type 0 where
  pub range : IsMersenneRange w p k
  pub same : m ≡ mersenne p k
