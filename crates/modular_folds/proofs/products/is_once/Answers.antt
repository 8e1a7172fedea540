use Rattle.std.proofs.Common.{arith}
use Rattle.modular_folds.proofs.FoldBounds.{low_only, fold_of_word}
use Rattle.modular_folds.proofs.products.is_once.Goals as goal

pub returns-then-above-p-clause-once : goal.returns-then-above-p-clause-once
returns-then-above-p-clause-once g c none v fits = search (arith, low_only, fold_of_word)
