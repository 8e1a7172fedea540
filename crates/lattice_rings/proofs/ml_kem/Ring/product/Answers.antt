use Rattle.std.proofs.Common.{arith}
use Rattle.lattice_rings.proofs.Blocks.{ring_product, ring_product_same}
use Rattle.lattice_rings.proofs.ml_kem.Ring.product.Goals as goal

pub returns-clause-product : goal.returns-clause-product
returns-clause-product c =
    let is = ring_product 3329 _ _ (omega arith) in
    ring_product_same 3329 _ _ _ _ is
    (c.inverse.ensures.unique _ (c.multiply.ensures.product _ _ _ is c.ntt.ensures.remainders
    c.ntt-2.ensures.remainders))
