use Rattle.std.proofs.Common.{◌*◌, ◌^◌, ◌<◌, sym, arith}
use Rattle.std.proofs.Math.Nat.{mod-eq_of_lt}
use Rattle.modular_prim.proofs.ResidueSteps.{subtracted_once_is_remainder}
use Rattle.modular_reduced.proofs.Signs.{by_sign, BySign}
use Rattle.modular_reduced.proofs.lanes.reduced_by_sign.Goals as goal
use Rattle.modular_reduced.proofs.lanes.reduced_by_sign.Goals.{After-has_top_bit}

-- what the top bit tells
reduction_known_by_sign : (g : _) (c : After-has_top_bit g)
    → BySign g.T.PathWord.base (g.T.RingWord.number c.args.m) (g.T.RingWord.number c.args.x)
    (g.T.RingWord.number c.wrapping_sub-less.result)
reduction_known_by_sign g c =
    let n = g.T.RingWord.number in let b = g.met.T.PathWord.base_is in
    by_sign g.T.PathWord.base (n c.args.m) (n c.args.x) (n c.wrapping_sub-less.result)
    (omega (arith, c.requires.room, b)) c.requires.below c.wrapping_sub-less.ensures.fits
    c.wrapping_sub-less.ensures.value

pub returns-then-has_top_bit : goal.returns-then-has_top_bit
returns-then-has_top_bit g c =
    let b = g.met.T.PathWord.base_is in
    let more = c.has_top_bit.ensures.top.0 c.if-has_top_bit.true in
    let less = (reduction_known_by_sign g (goal.at.returns-then-has_top_bit g c).After-has_top_bit).left
    (omega (arith, more, b)) in
    record { value = sym (mod-eq_of_lt less); below = less }

pub returns-else-has_top_bit : goal.returns-else-has_top_bit
returns-else-has_top_bit g c =
    let n = g.T.RingWord.number in let b = g.met.T.PathWord.base_is in
    let low : 2 * n c.wrapping_sub-less.result < 2 ^ g.T.RingWord.width = grind arith in
    let is = (reduction_known_by_sign g (goal.at.returns-else-has_top_bit g c).After-has_top_bit).taken
    (omega (arith, low, b)) in
    record {
      value = subtracted_once_is_remainder (n c.args.m) (n c.args.x) (n c.wrapping_sub-less.result) (omega (arith, is))
          c.requires.below is;
      below = omega (arith, is, c.requires.below);
    }
