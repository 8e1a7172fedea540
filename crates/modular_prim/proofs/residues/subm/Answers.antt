-- A distance with the sign of the result.
use Rattle.std.proofs.Common.{◌<◌, ◌∙◌, arith}
use Rattle.std.proofs.Math.Nat.{mod-eq_of_lt}
use Rattle.std.proofs.lemmas.Bool.{iff_false}
use Rattle.std.proofs.lemmas.Int.{ints}
use Rattle.modular_prim.proofs.ResidueSteps.{neg_of_rest, neg_of_some, sub_of_less}
use Rattle.modular_prim.proofs.residues.subm.Goals as goal

pub returns-then-is_below : goal.returns-then-is_below
returns-then-is_below g c =
    let less : g.T.RingWord.number c.args.a < g.T.RingWord.number c.args.b =
    c.is_below.ensures.below.0 c.if-is_below.true in
    neg_of_some _ _ _ (c.spares_division.ensures c.if-spares_division.true)
    (omega (arith, less, (c.distance-apart.ensures.below less)))
    c.minus.ensures.value ∙ sub_of_less _ _ _ _ (c.distance-apart.ensures.below less)

pub returns-else-is_below : goal.returns-else-is_below
returns-else-is_below g c = grind (arith, iff_false, ints, mod-eq_of_lt)

pub returns-then-is_below-2 : goal.returns-then-is_below-2
returns-then-is_below-2 g c =
    let less : g.T.RingWord.number c.args.a < g.T.RingWord.number c.args.b =
    c.is_below-else-spares_division.ensures.below.0 c.if-is_below-2.true in
    c.neg_below.ensures.value ∙ neg_of_rest _ _ _ c.requires c.remainder-rest.ensures.value
    ∙ sub_of_less _ _ _ _ (c.distance-apart.ensures.below less)

pub returns-else-is_below-2 : goal.returns-else-is_below-2
returns-else-is_below-2 g c = grind arith
