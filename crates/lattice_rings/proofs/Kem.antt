-- The numbers of FIPS 203, and its transform as remainders modulo X^2 - c.
use Rattle.std.proofs.Common.{◌≡◌, ◌%◌, ◌∙◌, ap, ℕ, ◌+◌, ◌*◌, ◌^◌, ◌<◌, refl, arith, inl, inr}
use Rattle.std.proofs.lemmas.Bool.{cases_eq}
use Rattle.std.proofs.Math.Nat.{add-zero}
use Rattle.num_modular.specs.Orders.{bits_reversed}
use Rattle.num_modular.specs.Transforms.{Suits}
use Rattle.num_modular.specs.Plans.{constant}
use Rattle.num_modular.specs.PlanProducts.{AreProducts}
use Rattle.num_modular.specs.PlanLaws.{product_of_two_low, product_of_two_high}
use Rattle.lattice_rings.specs.Rings.{IsKemTransform, IsKemProduct}
use Rattle.lattice_rings.proofs.Blocks.{AreValues, constant_is, value_same}

-- zeta suits
pub kem_zeta_suits : Suits 3329 17 256
kem_zeta_suits = record { power_of_two = (8, refl); half_turn = λ l. refl }

twice_is : (k : ℕ) → k * 2 ≡ 2 * k
twice_is k = omega arith

pub IsKemTransform-from_values : (x y : ℕ → ℕ) → AreValues 3329 17 7 2 x y → IsKemTransform x y
IsKemTransform-from_values x y are = record {
  constant = λ i l. simp (twice_is, add-zero) at (are.each i 0 l (omega arith));
  linear = λ i l. simp twice_is at (are.each i 1 l (omega arith));
}

pub AreValues-from_kem_transform : (x y : ℕ → ℕ) → IsKemTransform x y → AreValues 3329 17 7 2 x y
AreValues-from_kem_transform x y are = record {
  each = λ j i lj li. elim (cases_eq i 0) [
    | inl z ↦ simp (z, twice_is, add-zero) (are.constant j lj)
    | inr n ↦ let one : i ≡ 1 = omega arith in simp (one, twice_is) (are.linear j lj)
  ];
}

-- the transform depends on the 256 coefficients alone
pub kem_transform_same : (w x y : ℕ → ℕ) → ((i : ℕ) → i < 256 → w i ≡ x i) → IsKemTransform x y → IsKemTransform w y
kem_transform_same w x y same are = search (arith, value_same)

-- products in the words of the standard are those of remainders modulo X^2 - c
pub products_of_remainders : (u v p : ℕ → ℕ) → IsKemProduct u v p → AreProducts 3329 17 8 1 128 2 u v p
products_of_remainders u v p are = record {
  each = λ j i lj li.
      let k = constant 17 8 (1 * 128 + j) in let c : k ≡ 17 ^ (2 * bits_reversed 7 j + 1) = constant_is 17 7 j lj in
      elim (cases_eq i 0) [
        | inl z ↦ simp (z, twice_is, add-zero, product_of_two_low, c) (are.constant j lj
            ∙ ap (λ n. n % 3329) (omega arith))
        | inr n ↦ let one : i ≡ 1 = omega arith in simp (one, twice_is, add-zero, product_of_two_high) (are.linear j lj)
      ];
}
