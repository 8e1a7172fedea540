use Rattle.std.proofs.Common.{pos}
use Rattle.modular_symbols.specs.Jacobi.{jacobi}
use Rattle.modular_symbols.proofs.TurnedSymbols.{Keeps}
use Rattle.modular_symbols.proofs.StepCounts.{Counts}
use Rattle.modular_symbols.proofs.halving.halve_and_swap.Given as goal

abbrev pub invariant-swaps : goal.invariant-swaps
invariant-swaps g l =
    let n = g.T.RingWord.number in
    record {
      symbol : Keeps (jacobi (pos (n l.fn.a)) (n l.fn.n)) (n l.above) (n l.below) l.turned;
      counts : Counts g.T.RingWord.width (n l.fn.a) (n l.fn.n) (n l.above) (n l.below) l.count;
    }

abbrev pub decreases-swaps : goal.decreases-swaps
decreases-swaps g l = g.T.RingWord.number l.above
