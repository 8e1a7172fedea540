use Rattle.std.proofs.Common.{◌≡◌, ◌+◌, ◌-◌, arith, ◌%◌, ◌<◌, ◌^◌}
use Rattle.modular_folds.proofs.FoldSteps.{fold_keeps, two_folds_keep}
use Rattle.modular_folds.proofs.FoldBounds.{three_low}
use Rattle.modular_folds.proofs.FoldCounts.{folds-none}
use Rattle.modular_folds.proofs.folds.fold_three.Goals as goal

pub returns : goal.returns
returns g c =
    let n = g.V.RingWord.number in
    let m = 2 ^ c.args.p - n c.args.c in let whole : m + n c.args.c ≡ 2 ^ c.args.p = omega (arith, c.requires.small) in
    let below : n c.fold-third.result.0 < 2 ^ c.args.p =
    rw c.fold-third.ensures.value (rw c.fold-second.ensures.value
    (rw c.fold-first.ensures.value (three_low c.args.p (n c.args.c) (n c.args.v) c.requires.small
    c.requires.product))) in
    let last : n c.fold-third.result.0 % m ≡ n c.fold-second.result.0 % m =
    rw c.fold-third.ensures.value (fold_keeps _ _ _ _ whole) in
    grind (
      arith,
      two_folds_keep c.args.p (n c.args.c) m (n c.args.v) whole c.fold-first.ensures.value c.fold-second.ensures.value,
      folds-none,
      c.fold-first.ensures.count,
      c.fold-second.ensures.count,
      c.fold-third.ensures.count,
    )
