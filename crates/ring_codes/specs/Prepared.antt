-- Factors that give further values of a polynomial from its values at given points, as Lagrange's form does (Knuth, The
-- Art of Computer Programming, volume 2, section 4.6.4).
use Rattle.std.specs.Prelude.{ℕ, ◌+◌, ◌-◌, ◌*◌, ◌<◌, pos, ◌-ℤ◌}
use Rattle.num_modular.specs.Congruence.{Congruent}
use Rattle.num_modular.specs.Polynomials.{polynomial_at}
use Rattle.num_modular.specs.Products.{product_below}
use Rattle.num_modular.specs.Residues.{residue}
use Rattle.num_modular.specs.Sums.{sum_below}

-- the product of the differences modulo m of a from the k points x, but for that of number i
unfoldable pub product_but : ℕ → ℕ → (ℕ → ℕ) → ℕ → ℕ → ℕ
product_but m k x i a =
    product_below i (λ l. residue m (pos a -ℤ pos (x l)))
    * product_below (k - 1 - i) (λ l. residue m (pos a -ℤ pos (x (k - 1 - l))))

-- n rows of k factors: the values at the k points x of any polynomial with k coefficients, each times its factor of row
-- j, add up to the value at the point y j modulo m
pub record AreRows (m k n : ℕ) (x y rows : ℕ → ℕ) : Type 0 where
  pub value : (j : ℕ) (c : ℕ → ℕ) → j < n →
      Congruent m (sum_below k (λ i. rows (j * k + i) * polynomial_at k c (x i))) (polynomial_at k c (y j))
