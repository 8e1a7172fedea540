use Rattle.ring_codes.proofs.Names.{◌∙◌, false≢true, length, entry, same_coefficients, sym, refl, arith, mod-eq_of_lt}
use Rattle.ring_codes.proofs.Names.{values_below}
use Rattle.ring_codes.proofs.NewtonForms.{fit_from_products, products_from_fit, interpolated_value}
use Rattle.ring_codes.proofs.Symbols.{entry_front}
use Rattle.ring_codes.proofs.erasure.interpolate.Goals as goal

pub returns-then-not-invert_each-clause-fit : goal.returns-then-not-invert_each-clause-fit
returns-then-not-invert_each-clause-fit g c =
    let positive = (g.met.R.Reducer.canonical c.args.r.now).positive in (
      λ t. absurd (false≢true t),
      λ fit. c.if-not-invert_each.ensures.each.1
          (λ i l. rw (c.fill_weights.ensures.values i (omega arith))
          (products_from_fit _ _ _ positive fit i (omega arith))),
    )

pub returns-clause-fit : goal.returns-clause-fit
returns-clause-fit g c = (
  λ t. fit_from_products _ _ _ (λ i l. rw (c.fill_weights.ensures.values i (omega arith)) at
      (c.if-not-invert_each.ensures.each.0 refl i (omega arith))),
  λ fit. refl,
)

pub returns-clause-values : goal.returns-clause-values
returns-clause-values g c t = grind (arith, interpolated_value, entry_front)

pub returns-clause-only : goal.returns-clause-only
returns-clause-only g c t other is i l =
    let ring = g.R.Reducer in let m = ring.modulus c.args.r.now in let number = g.T.RingWord.number in
    let n = length c.args.coefficients.now in let x = entry number ring.value m c.args.points.now in
    let mine = returns-clause-values g c t in
    rw (mod-eq_of_lt (values_below number ring.form ring.value m _ i c.expand.ensures.checked (omega arith))) at
    ((same_coefficients m n _ other x ((returns-clause-fit g c).0 t)
    (λ i l. record { same = sym (mine.symbol i l) ∙ is.symbol i l }) i l).same)

pub divide_differences-requires-clause-inverses_within :
    goal.divide_differences-requires-clause-inverses_within
divide_differences-requires-clause-inverses_within g c = omega arith

pub divide_differences-requires-clause-points_within :
    goal.divide_differences-requires-clause-points_within
divide_differences-requires-clause-points_within g c = omega (arith, c.requires.points_within)
