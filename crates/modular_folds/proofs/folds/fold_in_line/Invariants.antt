use Rattle.std.proofs.Common.{◌≡◌, ◌+◌, ◌*◌, ◌/◌, ◌%◌, ◌^◌, ◌≤◌}
use Rattle.modular_folds.proofs.folds.fold_in_line.Given as goal

abbrev pub invariant-folds : goal.invariant-folds
invariant-folds g l =
    let n = g.V.RingWord.number in
    record {
      same : n l.rest % n l.fn.m ≡ n l.fn.v % n l.fn.m;
      bound : n l.rest / 2 ^ l.fn.p * n l.fn.c + n l.mask ≤ n l.most;
    }

abbrev pub decreases-folds : goal.decreases-folds
decreases-folds g l = g.V.RingWord.number l.most
