use Rattle.std.proofs.Common.{ap, ◌*◌, ◌≡◌, arith}
use Rattle.modular_folds.proofs.FoldCounts.{count_none, count_one}
use Rattle.modular_folds.proofs.FoldSteps.{masked_number_is_residue, fold_at_most}
use Rattle.modular_folds.specs.Folds.{fold_of}
use Rattle.modular_folds.proofs.WordTests.{positive_by_false_test}
use Rattle.modular_folds.proofs.folds.fold.Goals as goal
use Rattle.modular_folds.proofs.folds.fold.Goals.{After-plus-rest}

pub times-requires : goal.times-requires
times-requires g c = search (arith, fold_at_most)

pub plus-rest-requires : goal.plus-rest-requires
plus-rest-requires g c =
    let n = g.V.RingWord.number in
    let most = fold_at_most _ _ (n c.args.v) c.requires.less in
    let low = masked_number_is_residue _ _ (n c.args.v) c.requires.mask in
    omega (
      arith,
      most,
      low,
      c.shift_right-high.ensures.fits,
      c.times.ensures,
      c.masked.ensures,
      ap (λ h. h * n c.args.c) c.shift_right-high.ensures.value,
    )

sum_of_parts_is_fold : (g : _) (c : After-plus-rest g)
    → g.V.RingWord.number c.plus-rest.result
    ≡ fold_of c.args.p (g.V.RingWord.number c.args.c) (g.V.RingWord.number c.args.v)
sum_of_parts_is_fold g c =
    let n = g.V.RingWord.number in
    let low = masked_number_is_residue c.args.p (n c.args.mask) (n c.args.v) c.requires.mask in
    omega (
      arith,
      low,
      c.plus-rest.ensures,
      c.times.ensures,
      c.masked.ensures,
      ap (λ h. h * n c.args.c) c.shift_right-high.ensures.value,
    )

pub returns-then-is_zero_word : goal.returns-then-is_zero_word
returns-then-is_zero_word g c = search (arith, sum_of_parts_is_fold, count_none)

pub returns-else-is_zero_word : goal.returns-else-is_zero_word
returns-else-is_zero_word g c = search (arith, sum_of_parts_is_fold, positive_by_false_test, count_one)
