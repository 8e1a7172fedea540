-- The rings of polynomials modulo X^256 + 1 of the lattice standards: FIPS 204, "Module-Lattice-Based Digital
-- Signature Standard", 2024, sections 2.5, 7.5 and 7.6 (ML-DSA: q = 8380417, zeta = 1753), and FIPS 203,
-- "Module-Lattice-Based Key-Encapsulation Mechanism Standard", 2024, section 4.3 (ML-KEM: q = 3329, zeta = 17).
use Rattle.std.specs.Prelude.{◌≡◌, ℕ, ◌+◌, ◌*◌, ◌%◌, ◌^◌, ◌<◌}
use Rattle.num_modular.specs.Orders.{bits_reversed}
use Rattle.num_modular.specs.PlanProducts.{coefficient}
use Rattle.num_modular.specs.Polynomials.{polynomial_at}

-- FIPS 204: v is NTT(w), entry i being w(zeta^(2 BitRev8(i) + 1))
pub record IsDsaTransform (w v : ℕ → ℕ) : Type 0 where
  pub each : (i : ℕ) → i < 256 → v i ≡ polynomial_at 256 w (1753 ^ (2 * bits_reversed 8 i + 1)) % 8380417

-- FIPS 203: v is NTT(w), the entries 2i and 2i + 1 being the remainder of w modulo X^2 - zeta^(2 BitRev7(i) + 1),
-- the constant first: with X^2 replaced by that power of zeta, the coefficients of w at even indexes give the
-- constant, and those at odd indexes the coefficient of X
pub record IsKemTransform (w v : ℕ → ℕ) : Type 0 where
  pub constant : (i : ℕ) → i < 128
      → v (2 * i) ≡ polynomial_at 128 (λ k. w (2 * k)) (17 ^ (2 * bits_reversed 7 i + 1)) % 3329
  pub linear : (i : ℕ) → i < 128
      → v (2 * i + 1) ≡ polynomial_at 128 (λ k. w (2 * k + 1)) (17 ^ (2 * bits_reversed 7 i + 1)) % 3329

-- p is the product of x and y modulo X^256 + 1 and q: as X^256 is -1, the coefficients from X^256 on are subtracted
-- from the first ones
pub record IsRingProduct (q : ℕ) (x y p : ℕ → ℕ) : Type 0 where
  pub below : (e : ℕ) → e < 256 → p e < q
  pub each : (e : ℕ) → e < 256 → (p e + coefficient 256 x y (e + 256)) % q ≡ coefficient 256 x y e % q

-- FIPS 204: p is the entrywise product of the transforms u and v
pub record IsDsaProduct (u v p : ℕ → ℕ) : Type 0 where
  pub each : (i : ℕ) → i < 256 → p i ≡ (u i * v i) % 8380417

-- FIPS 203: p is the product of the transforms u and v; its entries 2i and 2i + 1 are the product of the remainders
-- modulo X^2 - zeta^(2 BitRev7(i) + 1)
pub record IsKemProduct (u v p : ℕ → ℕ) : Type 0 where
  pub constant : (i : ℕ) → i < 128 → p (2 * i)
      ≡ (u (2 * i) * v (2 * i) + u (2 * i + 1) * v (2 * i + 1) * 17 ^ (2 * bits_reversed 7 i + 1)) % 3329
  pub linear : (i : ℕ) → i < 128 → p (2 * i + 1) ≡ (u (2 * i) * v (2 * i + 1) + u (2 * i + 1) * v (2 * i)) % 3329
