-- Residues of whole numbers (Gauss, Disquisitiones Arithmeticae, articles 1 to 4).
use Rattle.std.specs.Prelude.{◌≡◌, ℕ, ◌-◌, ◌%◌, ◌<◌, ℤ, pos, negsuc, ◌+ℤ◌, ◌*ℤ◌}

-- v is the residue of z modulo m: the only number from 0 to m - 1 from which z differs by a multiple of m
pub record IsResidue (m : ℕ) (z : ℤ) (v : ℕ) : Type 0 where
  pub below : v < m
  pub quotient : ℤ
  pub differs : z ≡ pos v +ℤ (quotient *ℤ pos m)

-- the residue of z modulo m, by an equation (`negsuc n` is -(n + 1))
abbrev pub residue : ℕ → ℤ → ℕ
residue m (pos n) = n % m
residue m (negsuc n) = m - 1 - n % m
