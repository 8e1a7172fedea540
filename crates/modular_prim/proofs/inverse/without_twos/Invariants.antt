use Rattle.std.proofs.Common.{◌-◌, ◌*◌, ◌^◌, ◌<◌, ◌≤◌}
use Rattle.modular_word.specs.Congruence.{Congruent}
use Rattle.modular_prim.proofs.inverse.without_twos.Given as goal

abbrev pub invariant-words : goal.invariant-words
invariant-words g l =
    let n = g.T.RingWord.number in
    record {
      below : n l.rest < n l.fn.m;
      within : l.left ≤ l.fn.twos;
      value : Congruent (n l.fn.m) (n l.rest * 2 ^ (l.fn.twos - l.left)) (n l.fn.w);
    }

abbrev pub decreases-words : goal.decreases-words
decreases-words g l = l.left
