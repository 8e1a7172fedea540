use Rattle.std.proofs.Common.{◌∙◌, ◌%◌, ap}
use Rattle.modular_folds.proofs.FoldSteps.{fold_keeps}
use Rattle.modular_folds.proofs.products.reduce_word.Goals as goal

pub returns-then-is_once : goal.returns-then-is_once
returns-then-is_once g c =
    let n = g.T.RingWord.number in
    c.reduced_folded.ensures ∙ ap (λ k. k % n c.args.m) c.fold_word.ensures.value
    ∙ fold_keeps _ _ _ (n c.args.v) c.requires.whole
