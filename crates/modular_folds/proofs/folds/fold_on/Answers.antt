use Rattle.std.proofs.Common.{arith}
use Rattle.modular_folds.proofs.FoldCounts.{few_in, folds-none}
use Rattle.modular_folds.proofs.FoldSteps.{fold_keeps, fold_less}
use Rattle.modular_folds.proofs.folds.fold_on.Goals as goal

pub overflow_add-count : goal.overflow_add-count
overflow_add-count g c = search (arith, few_in)

pub folds-preserved : goal.folds-preserved
folds-preserved g c = search (arith, fold_keeps)

pub returns : goal.returns
returns g c = search (arith, folds-none)

pub folds-smaller : goal.folds-smaller
folds-smaller g c = search (arith, fold_less)
