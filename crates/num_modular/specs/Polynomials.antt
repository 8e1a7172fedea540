-- Polynomials, and points whose values determine them (Knuth, The Art of Computer Programming, volume 2,
-- section 4.6.4).
use Rattle.std.specs.Prelude.{◌≢◌, ℕ, ◌<◌, pos, ◌-ℤ◌}
use Rattle.modular_word.specs.Inverses.{HasInverse}
use Rattle.modular_word.specs.Residues.{residue}
pub use Rattle.modular_word.specs.Sums.{polynomial_at, polynomial_highest_first}

-- the difference of any two of the numbers x 0, .., x (n - 1) has an inverse modulo m
pub record HaveUnitDifferences (m n : ℕ) (x : ℕ → ℕ) : Type 0 where
  pub unit : (i j : ℕ) → i < n → j < n → i ≢ j → HasInverse m (residue m (pos (x i) -ℤ pos (x j)))
