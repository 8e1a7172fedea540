use Rattle.std.proofs.Common.{slice_index, arith}
use Rattle.lattice_rings.proofs.Blocks.{multiplied_words, product_transformed}
use Rattle.lattice_rings.proofs.Dsa.{dsa_zeta_suits, IsDsaTransform-from_values, AreValues-from_dsa_transform}
use Rattle.lattice_rings.proofs.Dsa.{products_of_places}
use Rattle.lattice_rings.proofs.ml_dsa.Ring.multiply.Goals as goal

pub returns-clause-products : goal.returns-clause-products
returns-clause-products c = search (arith, multiplied_words)

pub returns-clause-product : goal.returns-clause-product
returns-clause-product c =
    let products = returns-clause-products c in
    grind (
      arith,
      slice_index,
      IsDsaTransform-from_values,
      product_transformed,
      dsa_zeta_suits,
      AreValues-from_dsa_transform,
      products_of_places,
    )
