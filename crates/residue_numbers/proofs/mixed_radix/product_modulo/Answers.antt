use Rattle.std.proofs.Common.{arith}
use Rattle.num_modular.specs.ProductLaws.{product_none, product_step}
use Rattle.residue_numbers.proofs.mixed_radix.product_modulo.Goals as goal

pub moduli-init : goal.moduli-init
moduli-init c = search (arith, product_none)

pub moduli-preserved : goal.moduli-preserved
moduli-preserved c = search (arith, product_step)
