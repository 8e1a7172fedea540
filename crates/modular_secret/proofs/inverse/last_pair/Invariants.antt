use Rattle.std.proofs.Common.{◌≡◌, ◌-◌, ◌*◌}
use Rattle.modular_secret.specs.Halvings.{IsHalvedPair}
use Rattle.modular_secret.proofs.inverse.last_pair.Given as goal

abbrev pub invariant-steps : goal.invariant-steps
invariant-steps g l =
    let n = g.T.RingWord.number in
    let p = l.pair in
    record {
      pair : IsHalvedPair g.T.PathWord.base (n l.fn.m) (n l.fn.x) l._done (2 * g.T.RingWord.width - l._done) (n p.above)
          (n p.below) (n p.above_factor) (n p.below_factor) (n p.odd) (n p.turns);
      count : l.count ≡ l._done;
    }
