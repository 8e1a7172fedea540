use Rattle.std.proofs.Common.{◌≡◌, ◌+◌, ◌%◌}
use Rattle.modular_folds.specs.Folds.{folds}
use Rattle.modular_folds.proofs.folds.fold_on.Given as goal

abbrev pub invariant-folds : goal.invariant-folds
invariant-folds g l =
    let n = g.V.RingWord.number in
    record {
      same : n l.rest % n l.fn.m ≡ n l.fn.v % n l.fn.m;
      count : l.count + folds l.fn.p (n l.fn.c) (n l.rest) ≡ folds l.fn.p (n l.fn.c) (n l.fn.v);
    }

abbrev pub decreases-folds : goal.decreases-folds
decreases-folds g l = g.V.RingWord.number l.rest
