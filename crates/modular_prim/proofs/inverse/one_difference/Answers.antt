-- The two cases, by which number is the greater.
use Rattle.std.proofs.Common.{◌≡◌, ◌+◌, ◌/◌, ◌^◌, ◌<◌, not, ap, sym, ◌∙◌, subst, arith, refl}
use mathlib.Core.Bool.{beq}
use Rattle.modular_prim.specs.Differences.{PairFits}
use Rattle.modular_prim.proofs.DifferenceSteps.{Ordered, ordered_above, ordered_below, pair_next, fits_next}
use Rattle.modular_prim.proofs.DifferenceSteps.{Without, Without-of_quotient, removed_twos_below_width, shift_fits}
use Rattle.modular_prim.proofs.DifferenceSteps.{few_twos}
use Rattle.modular_prim.proofs.DifferenceSteps.{zeros_above, zeros_below}
use Rattle.modular_prim.proofs.inverse.one_difference.Given.{Over}
use Rattle.modular_prim.proofs.inverse.one_difference.Goals as goal
use Rattle.modular_prim.proofs.inverse.one_difference.Goals.{then-less, else-less, Joined-less}

ordered : (g : Over) (c : goal.Joined-less g)
    → Ordered g.T.PathWord.base (g.T.RingWord.number c.args.pair.above) (g.T.RingWord.number c.args.pair.below)
    (g.T.RingWord.number c.args.pair.above_factor) (g.T.RingWord.number c.args.pair.below_factor) c.args.pair.twos
    (g.T.RingWord.number c.if-less.chosen.0) (g.T.RingWord.number c.if-less.chosen.1)
    (g.T.RingWord.number c.if-less.chosen.2) c.trailing_zeros-zeros.result
    c.args.pair.minus (not (beq c.args.pair.minus c.is_below-less.result))
ordered g c =
    let n = g.T.RingWord.number in
    let a = n c.args.pair.above in
    let b = n c.args.pair.below in
    elim c.if-less.branch [
      | then-less w ↦
          let e : n c.if-less.chosen.0 + a ≡ b = ap (λ v. n v.0 + a) w.chosen-is ∙ w.minus.ensures.value in
          ordered_below _ _ _ _ _ _ _ _ _ _ _ _ c.requires.fits w.if-less.true c.requires.differ
          c.is_below-less.ensures.other_fits e
          (zeros_below _ _ _ a b _ _ g.met.T.PathWord.base_is c.wrapping_sub.ensures.value
          c.trailing_zeros-zeros.ensures.value e)
          (ap (λ v. n v.1) w.chosen-is) (ap (λ v. n v.2) w.chosen-is)
      | else-less w ↦
          let e : n c.if-less.chosen.0 + b ≡ a = ap (λ v. n v.0 + b) w.chosen-is ∙ w.minus-else-less.ensures.value in
          ordered_above _ _ _ _ _ _ _ _ _ _ _ _ c.requires.fits w.if-less.false c.requires.differ
          c.is_below-less.ensures.fits e (zeros_above _ _ _ a b _ _ g.met.T.PathWord.base_is
          c.wrapping_sub.ensures.value c.trailing_zeros-zeros.ensures.value e)
          (ap (λ v. n v.1) w.chosen-is) (ap (λ v. n v.2) w.chosen-is)
    ]

halved : (g : Over) (c : goal.Joined-less g)
    → Without (g.T.RingWord.number c.if-less.chosen.0) c.trailing_zeros-zeros.result
    (g.T.RingWord.number c.if-less.chosen.0 / 2 ^ c.trailing_zeros-zeros.result)
halved g c = let o = ordered g c in Without-of_quotient _ _ _ o.some o.even refl

few : (g : Over) (c : goal.Joined-less g) → c.trailing_zeros-zeros.result < g.T.RingWord.width
few g c = removed_twos_below_width _ _ _ _ (halved g c) (omega (arith, (ordered g c).below, g.met.T.PathWord.base_is))

pub shift_right-requires : goal.shift_right-requires
shift_right-requires g c = few g (goal.at.shift_right-requires g c).Joined-less

pub shift_left-requires-clause-by : goal.shift_left-requires-clause-by
shift_left-requires-clause-by g c = few g (goal.at.shift_left-requires-clause-by g c).Joined-less

pub shift_left-requires-clause-fits : goal.shift_left-requires-clause-fits
shift_left-requires-clause-fits g c =
    let before = (goal.at.shift_left-requires-clause-fits g c).Joined-less in
    let o = ordered g before in
    shift_fits _ _ _ _ _ _ _ _ _ o.whole (halved g before) o.fits

kept : (g : Over) (c : goal.After-shift_left g)
    → Without (g.T.RingWord.number c.if-less.chosen.0) c.trailing_zeros-zeros.result
    (g.T.RingWord.number c.shift_right.result)
kept g c =
    subst (λ o. Without (g.T.RingWord.number c.if-less.chosen.0) c.trailing_zeros-zeros.result o)
    (sym c.shift_right.ensures.value) (halved g (goal.at.returns-clause-fits g c).Joined-less)

next_fits : (g : Over) (c : goal.After-shift_left g)
    → PairFits g.T.PathWord.base (g.T.RingWord.number c.shift_right.result)
    (g.T.RingWord.number c.if-less.chosen.1) (g.T.RingWord.number c.plus.result)
    (g.T.RingWord.number c.shift_left.result) (c.args.pair.twos + c.trailing_zeros-zeros.result)
next_fits g c =
    let o = ordered g (goal.at.returns-clause-fits g c).Joined-less in
    fits_next _ _ _ _ _ _ _ _ _ _ _ o.whole (kept g c) (c.plus.ensures ∙ o.sum) c.shift_left.ensures o.fits

pub overflow_add-result : goal.overflow_add-result
overflow_add-result g c =
    let few = few_twos g.T.RingWord.width _ _ _ _ _ _ g.met.T.PathWord.base_is (next_fits g c) in
    omega (arith, g.met.T.RingWord.width_to)

pub returns-clause-pair : goal.returns-clause-pair
returns-clause-pair g c m x p =
    let o = ordered g (goal.at.returns-clause-pair g c).Joined-less in
    pair_next m x _ _ _ _ _ _ _ _ _ _ _ o.whole (kept g c) (c.plus.ensures ∙ o.sum) c.shift_left.ensures (o.pair m x p)

pub returns-clause-fits : goal.returns-clause-fits
returns-clause-fits g c = next_fits g c
