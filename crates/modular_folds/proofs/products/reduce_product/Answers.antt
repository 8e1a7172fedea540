use Rattle.std.proofs.Common.{arith}
use Rattle.modular_folds.proofs.FoldSteps.{two_bits}
use Rattle.modular_folds.proofs.ProductFolds.{product_high}
use Rattle.modular_folds.proofs.products.reduce_product.Goals as goal

pub has_few_folds-requires-clause-some : goal.has_few_folds-requires-clause-some
has_few_folds-requires-clause-some g c = two_bits c.requires.folding

pub reduce_in_line-requires : goal.reduce_in_line-requires
reduce_in_line-requires g c = search (arith, product_high)
