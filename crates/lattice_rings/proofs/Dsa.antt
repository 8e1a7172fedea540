-- The numbers of FIPS 204, and its transform as remainders modulo X - c.
use Rattle.std.proofs.Common.{◌≡◌, ℕ, ◌<◌, refl, arith}
use Rattle.std.proofs.Math.Nat.{mul-one, add-zero}
use Rattle.num_modular.specs.Sums.{sum_below}
use Rattle.num_modular.specs.Transforms.{Suits}
use Rattle.num_modular.specs.PlanProducts.{AreProducts}
use Rattle.num_modular.specs.PlanLaws.{product_of_one}
use Rattle.lattice_rings.specs.Rings.{IsDsaTransform, IsDsaProduct}
use Rattle.lattice_rings.proofs.Blocks.{AreValues, value_same}

-- zeta suits
pub dsa_zeta_suits : Suits 8380417 1753 512
dsa_zeta_suits = record { power_of_two = (9, refl); half_turn = λ l. refl }

pub IsDsaTransform-from_values : (x y : ℕ → ℕ) → AreValues 8380417 1753 8 1 x y → IsDsaTransform x y
IsDsaTransform-from_values x y are = record { each = λ i l. simp (mul-one, add-zero) at (are.each i 0 l (omega arith)) }

pub AreValues-from_dsa_transform : (x y : ℕ → ℕ) → IsDsaTransform x y → AreValues 8380417 1753 8 1 x y
AreValues-from_dsa_transform x y are = search (arith, value_same)

-- the transform depends on the 256 coefficients alone
pub dsa_transform_same : (w x y : ℕ → ℕ) → ((i : ℕ) → i < 256 → w i ≡ x i) → IsDsaTransform x y → IsDsaTransform w y
dsa_transform_same w x y same are = search (arith, value_same)

-- products of values are those of remainders modulo X - c
pub products_of_places : (u v p : ℕ → ℕ) → IsDsaProduct u v p → AreProducts 8380417 1753 9 1 256 1 u v p
unfolding sum_below
products_of_places u v p are = search (arith, product_of_one)
