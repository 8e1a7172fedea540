use Rattle.std.proofs.Common.{ℕ, ◌∙◌, length, get_or, ap, refl, sym, subst, arith}
use Rattle.std.proofs.lemmas.Bool.{false≢true}
use Rattle.long_product.specs.AnyLength.{scaled_transform, FitsTransform}
use Rattle.long_product.proofs.RootsOfOrder.{transform_undone}
use Rattle.long_product.proofs.any_length.intt.Goals as goal

pub returns-then-not-fits-clause-fits : goal.returns-then-not-fits-clause-fits
returns-then-not-fits-clause-fits g c = (
  λ t. absurd (false≢true t),
  λ h. c.if-not-fits.ensures.1 (subst (FitsTransform c.args.m (length c.args.xs.now) (length c.args.out.now)
      (length c.args.words.now)) (sym c.factors.ensures) h.0),
)

pub returns-in-Some-Some-clause-fits : goal.returns-in-Some-Some-clause-fits
returns-in-Some-Some-clause-fits g c = (
  λ t. (
    subst (FitsTransform c.args.m (length c.args.xs.now) (length c.args.out.now) (length c.args.words.now))
        c.factors.ensures (c.if-not-fits.ensures.0 refl),
    (c.in-Some-Some.inverse, c.in-Some-Some.ensures),
    (c.in-Some-Some.part, c.in-Some-Some.ensures'),
  ),
  λ h. refl,
)

pub returns-in-Some-Some-clause-values : goal.returns-in-Some-Some-clause-values
returns-in-Some-Some-clause-values g c t h part j inverse of_length l =
    let n = length c.args.xs.now in
    let x = λ (k : ℕ). get_or c.args.xs.now k 0 in
    let equal = (c.if-not-fits.ensures.0 refl).equal in
    let unique = c.inverse_laws.ensures.unique in
    c.fill.ensures j (omega arith)
    ∙ ap (λ v. scaled_transform c.args.m v c.in-Some-Some.inverse n x j)
    (unique c.args.m n c.in-Some-Some.part part c.in-Some-Some.ensures' of_length)
    ∙ ap (λ v. scaled_transform c.args.m part v n x j)
    (unique c.args.m c.args.g c.in-Some-Some.inverse h c.in-Some-Some.ensures inverse)

pub returns-in-Some-Some-clause-undone : goal.returns-in-Some-Some-clause-undone
returns-in-Some-Some-clause-undone g c t root x is i l =
    let equal = (c.if-not-fits.ensures.0 refl).equal in
    c.fill.ensures i (omega arith)
    ∙ transform_undone c.args.m c.args.g c.in-Some-Some.inverse c.in-Some-Some.part (length c.args.xs.now) i x
    (λ k. get_or c.args.xs.now k 0) c.in-Some-Some.ensures.one c.in-Some-Some.ensures'.one root l is
