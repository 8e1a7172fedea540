use Rattle.std.proofs.Common.{◌≡◌, ◌+◌, ◌/◌, ◌%◌, pos}
use Rattle.modular_symbols.specs.Jacobi.{jacobi}
use Rattle.modular_symbols.proofs.TurnBits.{is_odd}
use Rattle.modular_symbols.proofs.TurnedSymbols.{Keeps}
use Rattle.modular_symbols.proofs.subtraction.subtract_and_halve.Given as goal

abbrev pub invariant-differences : goal.invariant-differences
invariant-differences g l =
    let n = g.T.RingWord.number in
    record {
      odd : n l.above % 2 ≡ 1;
      symbol : Keeps (jacobi (pos (n l.fn.a)) (n l.fn.n)) (n l.above) (n l.below) (is_odd (l.swaps / 2 + l.twos));
    }

abbrev pub decreases-differences : goal.decreases-differences
decreases-differences g l =
    let n = g.T.RingWord.number in
    n l.above + n l.below
