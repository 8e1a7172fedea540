use Rattle.std.proofs.Common.{refl}
use Rattle.modular_folds.proofs.FoldCounts.{folds-none, folds-parts, few_folds}
use Rattle.modular_folds.specs.Folds.{folds}
use Rattle.modular_folds.proofs.folds.fold_laws.Goals as goal

pub returns : goal.returns
returns c = record {
  none = folds-none;
  next = folds-parts;
  few = λ p c v half. few_folds p c v (folds p c v) half refl;
}
