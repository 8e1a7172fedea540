use Rattle.std.proofs.Common.{◌*◌, ◌%◌, ◌<◌, slice_index, ap, sym, ◌∙◌, refl, arith, subst}
use Rattle.std.proofs.lemmas.List.{map-id}
use Rattle.examples.proofs.Coefficients.{entry_at_most_bound, bound_below_modulus}
use Rattle.examples.proofs.polynomials.product_of.Goals as goal

pub returns-clause-coefficients : goal.returns-clause-coefficients
returns-clause-coefficients g c t e l =
    let m = g.R.Reducer.modulus c.args.r.now in
    let b = c.args.bound in let xs = c.args.xs.now in
    let ys = c.args.ys.now in
    let same = c.load_forms.auto.forms in let small = bound_below_modulus m _ _ b c.requires.suits c.requires.modulus in
    ap (λ ws. slice_index ws e) (sym (map-id c.unload_forms.new.words)) ∙ c.unload_forms.ensures.values e l
    ∙ c.if-not-convolve.ensures.values refl e (omega (arith, same, l, c.requires.within))
    ∙ c.coefficient_laws.ensures.lists m _ b b e xs ys _ _
    (λ i k. c.load_forms.ensures.values i (omega (arith, same, k)) ∙ ap (λ ws. slice_index ws i % m) (map-id xs))
    (λ j k. c.load_forms-2.ensures.values j (omega (arith, same, k, c.requires.equal))
    ∙ ap (λ ws. slice_index ws j % m) (map-id ys))
    (λ i. entry_at_most_bound xs b i c.requires.small_xs) (λ j. entry_at_most_bound ys b j c.requires.small_ys) small
    small
    (subst (λ n. n * (b * b) < m) (sym same) c.requires.modulus) (omega (arith, same, c.requires.room))
    (omega (arith, same, l, c.requires.within))
