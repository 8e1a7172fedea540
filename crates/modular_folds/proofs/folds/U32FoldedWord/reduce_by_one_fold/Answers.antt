use Rattle.std.proofs.Common.{◌≡◌, ◌+◌, ◌/◌, ◌^◌, ◌∙◌, ◌%◌, ap, arith, bit_and}
use Rattle.modular_folds.specs.Folds.{fold_of}
use Rattle.modular_folds.proofs.FoldSteps.{masked_number_is_residue, fold_keeps}
use Rattle.modular_folds.proofs.folds.U32FoldedWord.reduce_by_one_fold.Goals as goal

pub returns-then-p-lt32 : goal.returns-then-p-lt32
returns-then-p-lt32 c =
    let sum : bit_and c.args.v c.args.m + c.args.v / 2 ^ c.args.p ≡ fold_of c.args.p 1 c.args.v =
    omega (arith, masked_number_is_residue c.args.p c.args.m c.args.v c.requires.mask) in
    c.reduced_last_word.ensures ∙ ap (λ k. k % c.args.m) sum ∙ fold_keeps c.args.p 1 c.args.m c.args.v c.requires.mask

pub returns-else-p-gt2 : goal.returns-else-p-gt2
returns-else-p-gt2 c =
    let sum : c.args.v / 2 ^ c.args.p + bit_and c.args.v c.args.m ≡ fold_of c.args.p 1 c.args.v =
    omega (arith, masked_number_is_residue c.args.p c.args.m c.args.v c.requires.mask) in
    c.sum_of_parts.ensures ∙ ap (λ k. k % c.args.m) sum ∙ fold_keeps c.args.p 1 c.args.m c.args.v c.requires.mask
