-- Moduli of the form 2^p1 - 2^p2 + k, the trinomials among the generalized Mersenne numbers
-- (Solinas, Generalized Mersenne numbers, technical report CORR 99-39, University of Waterloo, 1999).
use Rattle.std.specs.Prelude.{◌≡◌, ℕ, ◌+◌, ◌-◌, ◌%◌, ◌^◌, ◌<◌, ◌≤◌, ℤ, pos, ◌+ℤ◌, ◌-ℤ◌, ◌<ℤ◌, nat_abs}

-- p1, p2 and k are in range for moduli of w bits: p1 is at most w, p2 is from 1 to p1 - 1, and k is odd with a
-- magnitude below 2^p2
pub record IsTrinomialRange (w p1 p2 : ℕ) (k : ℤ) : Type 0 where
  pub fits : p1 ≤ w
  pub positive : 0 < p2
  pub falling : p2 < p1
  pub odd : nat_abs k % 2 ≡ 1
  pub small : nat_abs k < 2 ^ p2

-- the modulus, which is above 0 for parameters in range
abbrev pub trinomial : ℕ → ℕ → ℤ → ℕ
trinomial p1 p2 k = nat_abs ((pos (2 ^ p1) -ℤ pos (2 ^ p2)) +ℤ k)

-- the factor of a fold at the bit p1
abbrev pub trinomial_factor : ℕ → ℕ → ℤ → ℕ
trinomial_factor p1 p2 k = 2 ^ p1 - trinomial p1 p2 k

-- m is the modulus of p1, p2 and k, which are in range
pub record IsTrinomial (w p1 p2 : ℕ) (k : ℤ) (m : ℕ) : Type 0 where
  pub range : IsTrinomialRange w p1 p2 k
  pub same : m ≡ trinomial p1 p2 k

-- the modulus is less than half of 2^p1, so that a number below 2^p1 may be many times the modulus
abbrev pub IsLowTrinomial : ℕ → ℕ → ℤ → Type 0
IsLowTrinomial p1 p2 k = (p1 ≡ p2 + 1) × (k <ℤ pos 0)
