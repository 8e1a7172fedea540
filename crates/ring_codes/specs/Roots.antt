-- Polynomials with given roots: products of X - z (von zur Gathen and Gerhard, Modern Computer Algebra, section 10.1). The
-- names are the library's own words.
use Rattle.std.specs.Prelude.{◌≡◌, ℕ, ◌+◌, ◌-◌, ◌*◌, ◌≤◌, pos, ◌-ℤ◌}
use Rattle.num_modular.specs.Congruence.{Congruent}
use Rattle.num_modular.specs.Polynomials.{polynomial_at}
use Rattle.num_modular.specs.Products.{product_below}
use Rattle.num_modular.specs.Residues.{residue}

-- the product of the differences modulo m of a from the c points z
abbrev pub product_of_differences : ℕ → ℕ → (ℕ → ℕ) → ℕ → ℕ
product_of_differences m c z a = product_below c (λ l. residue m (pos a -ℤ pos (z l)))

-- the coefficients, the constant first, of the product of X - z for the c points z
pub record HasRoots (m c : ℕ) (z coefficients : ℕ → ℕ) : Type 0 where
  pub highest : Congruent m (coefficients c) 1
  pub value : (a : ℕ) → Congruent m (polynomial_at (c + 1) coefficients a) (product_of_differences m c z a)

-- the coefficients of that product modulo m: they are congruent to those of a polynomial over the whole numbers, whose value
-- at each a is the product of a + (m - 1)·z for the c points z. Modulo m, (m - 1)·z is -z. The values determine the polynomial.
pub record AreRootCoefficients (m c : ℕ) (z coefficients : ℕ → ℕ) : Type 0 where
  pub whole : ℕ → ℕ
  pub value : (a : ℕ) → polynomial_at (c + 1) whole a ≡ product_below c (λ l. a + (m - 1) * z l)
  pub same : (k : ℕ) → k ≤ c → Congruent m (coefficients k) (whole k)
