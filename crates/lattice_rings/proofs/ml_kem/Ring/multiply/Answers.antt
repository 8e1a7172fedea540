use Rattle.std.proofs.Common.{slice_index, arith}
use Rattle.lattice_rings.proofs.Blocks.{product_transformed}
use Rattle.lattice_rings.proofs.Kem.{kem_zeta_suits, IsKemTransform-from_values, AreValues-from_kem_transform}
use Rattle.lattice_rings.proofs.Kem.{products_of_remainders}
use Rattle.lattice_rings.proofs.ml_kem.Ring.multiply.Goals as goal

pub returns-clause-product : goal.returns-clause-product
returns-clause-product c =
    grind (
      arith,
      slice_index,
      IsKemTransform-from_values,
      product_transformed,
      kem_zeta_suits,
      AreValues-from_kem_transform,
      products_of_remainders,
    )
