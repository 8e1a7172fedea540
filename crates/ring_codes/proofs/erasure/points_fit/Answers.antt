use Rattle.ring_codes.proofs.Names.{arith, has_each, has_product}
use Rattle.ring_codes.proofs.NewtonForms.{flag_true_iff_invertible, fit_from_products, products_from_fit}
use Rattle.ring_codes.proofs.NewtonForms.{has_of_residue}
use Rattle.ring_codes.proofs.NewtonForms.{has_to_residue}
use Rattle.ring_codes.proofs.erasure.points_fit.Goals as goal

pub returns : goal.returns
returns g c =
    let positive = (g.met.R.Reducer.canonical c.args.r.now).positive in
    let tells = flag_true_iff_invertible _ _ _ _ _ c.inv.ensures.value c.is_some.ensures in
    let whole = c.points.invariant.same in (
      λ b. fit_from_products _ _ _
          (λ i l. has_each _ _ _ (has_of_residue _ _ _ whole (tells.0 b)) i (omega arith)),
      λ fit. tells.1 (has_to_residue _ _ _ whole
          (has_product _ _ _ positive (λ i l. products_from_fit _ _ _ positive fit i (omega arith)))),
    )
