use Rattle.std.proofs.Common.{arith}
use Rattle.modular_barrett.proofs.ScaledLemmas.{sum_stands}
use Rattle.modular_barrett.proofs.ScaledHalves.{AreHalves, halves_of_scaled, sum_of_halves}
use Rattle.modular_barrett.proofs.premul.PreMulInv2by1.sum_by_halves.Goals as goal
use Rattle.modular_barrett.proofs.premul.PreMulInv2by1.sum_by_halves.Goals.{After-half-3}

summands_are_halved : (g : _) (c : After-half-3 g)
    → let n = g.T.RingWord.number in
    AreHalves (n c.divisor.result) (n c.args.a) (n c.args.b) (n c.half-3.result) (n c.half.result) (n c.half-2.result)
summands_are_halved g c =
    let n = g.T.RingWord.number in
    halves_of_scaled g.T.RingWord.width _ (n c.divisor.result) (n c.args.a) (n c.args.b)
    (n c.half-3.result) (n c.half.result) (n c.half-2.result) c.divisor.ensures.scaled c.requires.room
    (let b = g.met.T.PathWord.base_is in omega (arith, c.divisor.ensures.top, b)) c.requires.left c.requires.right
    c.half-3.ensures.value c.half.ensures.value c.half-2.ensures.value

pub sum_by_sign-half-requires : goal.sum_by_sign-half-requires
sum_by_sign-half-requires g c =
    let is = summands_are_halved g (goal.at.sum_by_sign-half-requires g c).After-half-3 in
    let fits = c.half-3.ensures.fits in
    record { left = is.left_below; right = is.right_below; room = omega (arith, is.divisor, fits) }

pub plus-requires : goal.plus-requires
plus-requires g c =
    let is = summands_are_halved g (goal.at.plus-requires g c).After-half-3 in
    let b = g.met.T.PathWord.base_is in
    omega (arith, is.divisor, c.half-3.ensures.fits, c.sum_by_sign-half.ensures.below, b)

pub returns : goal.returns
returns g c =
    let n = g.T.RingWord.number in
    let is = summands_are_halved g (goal.at.returns g c).After-half-3 in
    let made = sum_of_halves (n c.divisor.result) (n c.args.a) (n c.args.b)
    (n c.half-3.result) (n c.half.result) (n c.half-2.result) (n c.sum_by_sign-half.result) (n c.plus.result) is
    c.sum_by_sign-half.ensures.value c.plus.ensures in
    sum_stands _ _ _ _ _ _ c.args.self.now.scaling.positive c.divisor.ensures.scaled c.requires.left c.requires.right
    made
