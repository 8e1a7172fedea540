use Rattle.std.proofs.Common.{arith}
use Rattle.modular_folds.proofs.FoldCounts.{few_folds}
use Rattle.modular_folds.proofs.folds.reduce_by_folds.Goals as goal

pub returns : goal.returns
returns g c = search (arith, few_folds)
