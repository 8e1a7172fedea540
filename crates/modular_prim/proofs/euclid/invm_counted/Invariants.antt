use Rattle.std.proofs.Common.{false, ◌*◌, ◌≤◌}
use Rattle.modular_prim.specs.Divisions.{inverse_divisions}
use Rattle.modular_prim.proofs.DivisionCounts.{Counts}
use Rattle.modular_prim.proofs.EuclidSteps.{Euclid}
use Rattle.modular_prim.proofs.euclid.invm_counted.Given as goal

abbrev pub invariant-euclid : goal.invariant-euclid
invariant-euclid g l =
    let n = g.T.RingWord.number in
    record {
      steps : Euclid (n l.fn.a) (n l.m) (n l.last_r) (n l.r) (n l.last_t) (n l.t) false;
      counts : Counts (n l.fn.a) (n l.m) (n l.last_r) (n l.r) l.count;
      most : inverse_divisions (n l.fn.a) (n l.m) ≤ 2 * g.T.RingWord.width;
    }

abbrev pub decreases-euclid : goal.decreases-euclid
decreases-euclid g l = g.T.RingWord.number l.r
