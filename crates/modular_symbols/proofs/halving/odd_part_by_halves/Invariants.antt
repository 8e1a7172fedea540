use Rattle.std.proofs.Common.{◌≡◌, ◌*◌, ◌^◌, ◌≤◌}
use Rattle.modular_symbols.proofs.halving.odd_part_by_halves.Given as goal

abbrev pub invariant-halves : goal.invariant-halves
invariant-halves g l =
    let n = g.T.RingWord.number in
    record {
      some : 1 ≤ n l.odd;
      whole : n l.odd * 2 ^ l.twos ≡ n l.fn.a;
    }

abbrev pub decreases-halves : goal.decreases-halves
decreases-halves g l = g.T.RingWord.number l.odd
