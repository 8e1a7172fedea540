use Rattle.std.proofs.Common.{◌≡◌, ◌*◌, ◌/◌, ◌%◌, ◌^◌, ◌<◌, ap, ◌∙◌, sym, subst, arith}
use Rattle.modular_reduced.proofs.PowerCounts.{digits_above}
use Rattle.modular_barrett.proofs.Multiplier.{IsPrepared, multiplier_prepared, multiplier_fits, multiplier_is}
use Rattle.modular_barrett.proofs.one_by_one.PreMulInv1by1.new.Goals as goal
use Rattle.modular_barrett.proofs.one_by_one.PreMulInv1by1.new.Goals.{After-low_quotient-quotient}

pub minus-gap-requires : goal.minus-gap-requires
minus-gap-requires g c =
    let below = subst (λ k. g.T.RingWord.number c.minus-less.result < 2 ^ k) (sym c.binary_digits-n.ensures.value)
    (digits_above (g.T.RingWord.number c.minus-less.result)) in
    omega (arith, below, c.ones.ensures)

is_prepared : (g : _) (c : After-low_quotient-quotient g)
    → IsPrepared g.T.RingWord.width g.T.PathWord.base (g.T.RingWord.number c.args.d)
    (g.T.RingWord.number c.minus-less.result)
    c.binary_digits-n.result (g.T.RingWord.number c.minus-gap.result)
is_prepared g c =
    multiplier_prepared _ _ _ _ _ _ _ _ (omega (arith, c.requires, c.one.ensures, c.minus-less.ensures.value))
    c.binary_digits-n.ensures.value c.binary_digits-n.ensures.at_most c.low_quotient-quotient.ensures.fits c.one.ensures
    c.minus-less.ensures.value c.ones.ensures c.minus-gap.ensures.value

low_quotient_of_scaled_gap : (g : _) (c : After-low_quotient-quotient g)
    → g.T.RingWord.number c.low_quotient-quotient.result
    ≡ g.T.PathWord.base * g.T.RingWord.number c.minus-gap.result / g.T.RingWord.number c.args.d % g.T.PathWord.base
low_quotient_of_scaled_gap g c =
    let n = g.T.RingWord.number in
    let b = g.T.PathWord.base in
    let dividend : g.T.PathWord.double_number c.merge.result ≡ b * n c.minus-gap.result =
    omega (arith, c.merge.ensures.value, c.zero.ensures) in
    c.low_quotient-quotient.ensures.value ∙ ap (λ v. v / n c.args.d % b) dividend

pub plus-requires : goal.plus-requires
plus-requires g c =
    let here = (goal.at.plus-requires g c).After-low_quotient-quotient in
    omega (
      arith,
      c.one-2.ensures,
      multiplier_fits _ _ _ _ _ _ _ (is_prepared g here)
          (low_quotient_of_scaled_gap g here),
    )

pub returns : goal.returns
returns g c =
    let here = (goal.at.returns g c).After-low_quotient-quotient in
    multiplier_is _ _ _ _ _ _ _ _ (is_prepared g here) (low_quotient_of_scaled_gap g here)
    (omega (arith, c.plus.ensures, c.one-2.ensures))
