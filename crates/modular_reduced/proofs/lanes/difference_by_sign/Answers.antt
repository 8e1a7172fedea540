use Rattle.std.proofs.Common.{◌≡◌, ◌+◌, ◌-◌, ◌*◌, ◌^◌, ◌%◌, ◌<◌, arith, ap, ◌∙◌}
use Rattle.std.proofs.Math.Nat.{mod-eq_of_lt, add-mod_right}
use Rattle.modular_prim.proofs.ResidueSteps.{residue_of_negative_difference, difference_above}
use Rattle.modular_reduced.proofs.Signs.{difference_by_sign, DifferenceBySign}
use Rattle.modular_reduced.proofs.lanes.difference_by_sign.Goals as goal
use Rattle.modular_reduced.proofs.lanes.difference_by_sign.Goals.{After-has_top_bit}

-- what the top bit tells
difference_known_by_sign : (g : _) (c : After-has_top_bit g)
    → DifferenceBySign g.T.PathWord.base (g.T.RingWord.number c.args.a) (g.T.RingWord.number c.args.b)
    (g.T.RingWord.number c.wrapping_sub-less.result)
difference_known_by_sign g c =
    let n = g.T.RingWord.number in let b = g.met.T.PathWord.base_is in
    difference_by_sign g.T.PathWord.base (n c.args.m) (n c.args.a) (n c.args.b) (n c.wrapping_sub-less.result)
    (omega (arith, c.requires.room, b)) c.requires.left c.requires.right
    c.wrapping_sub-less.ensures.fits c.wrapping_sub-less.ensures.value

pub returns-then-has_top_bit : goal.returns-then-has_top_bit
returns-then-has_top_bit g c =
    let n = g.T.RingWord.number in let base = g.T.PathWord.base in let b = g.met.T.PathWord.base_is in
    let more = c.has_top_bit.ensures.top.0 c.if-has_top_bit.true in
    let is = (difference_known_by_sign g (goal.at.returns-then-has_top_bit g c).After-has_top_bit).left
    (omega (arith, more, b)) in
    let gap = n c.args.b - n c.args.a in
    let past : n c.wrapping_sub-less.result + n c.args.m ≡ (n c.args.m - gap) + base =
    omega (arith, is.0, is.1, c.requires.right) in
    let within : n c.args.m - gap < base = omega (arith, c.requires.room, c.requires.left, b) in
    let result : n c.wrapping_add.result ≡ n c.args.m - gap =
    c.wrapping_add.ensures.value ∙ ap (λ v. v % base) past ∙ add-mod_right (n c.args.m - gap) base
    ∙ mod-eq_of_lt within in
    record {
      value = residue_of_negative_difference (n c.args.m) (n c.args.a) (n c.args.b) gap (n c.wrapping_add.result)
          c.requires.right is.1
          (omega (arith, is.1)) (omega (arith, result, is.1, c.requires.right));
      below = omega (arith, result, is.1, c.requires.right);
    }

pub returns-else-has_top_bit : goal.returns-else-has_top_bit
returns-else-has_top_bit g c =
    let n = g.T.RingWord.number in let b = g.met.T.PathWord.base_is in
    let low : 2 * n c.wrapping_sub-less.result < 2 ^ g.T.RingWord.width = grind arith in
    let is = (difference_known_by_sign g (goal.at.returns-else-has_top_bit g c).After-has_top_bit).taken
    (omega (arith, low, b)) in
    record {
      value = difference_above (n c.args.m) (n c.args.a) (n c.args.b) (n c.wrapping_sub-less.result) c.requires.left is;
      below = omega (arith, is, c.requires.left);
    }
