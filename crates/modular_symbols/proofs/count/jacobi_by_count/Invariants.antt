use Rattle.std.proofs.Common.{◌-◌, pos}
use Rattle.modular_symbols.specs.Kronecker.{signed}
use Rattle.modular_symbols.proofs.CountSteps.{CountedTo}
use Rattle.modular_symbols.proofs.count.jacobi_by_count.Given as goal

abbrev pub invariant-half_system : goal.invariant-half_system
invariant-half_system g l =
    let n = g.T.RingWord.number in
    CountedTo (signed l.a_minus (pos (n l.fn.a))) (n l.n) (n l.x) l.odd

abbrev pub decreases-half_system : goal.decreases-half_system
decreases-half_system g l =
    let n = g.T.RingWord.number in
    n l.half - n l.x
