use Rattle.std.proofs.Common.{◌-◌, ◌≤◌}
use Rattle.modular_word.proofs.Lifting.{InverseTo}
use Rattle.modular_word.proofs.paths.neginv.Given as goal

abbrev pub invariant-lift : goal.invariant-lift
invariant-lift g l = record {
  lifted : InverseTo g.T.RingWord.width (g.T.RingWord.number l.m) (g.T.RingWord.number l.inverse) l.bits;
  some : 3 ≤ l.bits;
}

abbrev pub decreases-lift : goal.decreases-lift
decreases-lift g l = g.T.RingWord.width - l.bits
