use Rattle.std.proofs.Common.{arith}
use Rattle.std.proofs.Math.Nat.{mod-lt}
use Rattle.std.proofs.lemmas.Grind.{get_or_default_zero}
use Rattle.num_modular_c.proofs.InPlace.{entry_done_more}
use Rattle.num_modular_c.proofs.plan_squares.square_each.Goals as goal

pub multiply-requires : goal.multiply-requires
multiply-requires c = rw (c.words.invariant.kept c.words.i (omega arith)) (c.requires c.words.i 0 (omega arith))

pub words-preserved : goal.words-preserved
words-preserved c =
    let kept = c.words.invariant.kept c.words.i (omega arith) in
    entry_done_more _ _ _ _ _ (omega arith) c.words.invariant (rw kept at c.multiply.ensures)

pub returns-clause-below : goal.returns-clause-below
returns-clause-below c =
    λ k d l. rw (get_or_default_zero c.words.xs k d l, c.words.invariant.done k (omega arith))
    (mod-lt _ (omega (arith, c.args.m.now.some)))
