use Rattle.ring_codes.proofs.Names.{◌<◌, ℕ, arith, length, entry, product_but}
use Rattle.ring_codes.proofs.Lagrange.{fit_from_all, all_from_fit}
use Rattle.ring_codes.proofs.NewtonForms.{has_of_residue, has_to_residue}
use Rattle.ring_codes.proofs.erasure.prepared.fill_barycentric_weights.Goals as goal

pub returns-clause-fit : goal.returns-clause-fit
returns-clause-fit g c =
    let ring = g.R.Reducer in let m = ring.modulus c.args.r.now in let points = c.args.points.now in
    let x = entry g.T.RingWord.number ring.value m points in let n : ℕ = length points in
    let positive = (g.met.R.Reducer.canonical c.args.r.now).positive in
    let tells = c.invert_each.ensures.each in let each = c.fill_differences.ensures.products in (
      λ t. fit_from_all m n x
          (λ i l. has_of_residue m (product_but m n x i (x i)) _ (each i l) (tells.0 t i (omega arith))),
      λ fit. tells.1 (λ i b. let l : i < n = omega arith in
          has_to_residue m (product_but m n x i (x i)) _ (each i l) (all_from_fit m n x positive fit i l)),
    )
