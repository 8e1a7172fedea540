use Rattle.std.proofs.Common.{◌+◌}
use Rattle.modular_prim.specs.Differences.{IsDifferencePair, PairFits}
use Rattle.modular_prim.proofs.inverse.last_pair.Given as goal

abbrev pub invariant-differences : goal.invariant-differences
invariant-differences g l =
    let n = g.T.RingWord.number in
    let p = l.pair in
    record {
      pair : IsDifferencePair (n l.fn.m) (n l.fn.x) (n p.above) (n p.below) (n p.above_factor)
          (n p.below_factor) p.twos p.minus;
      fits : PairFits g.T.PathWord.base (n p.above) (n p.below) (n p.above_factor) (n p.below_factor) p.twos;
    }

abbrev pub decreases-differences : goal.decreases-differences
decreases-differences g l =
    let n = g.T.RingWord.number in
    n l.pair.above + n l.pair.below
