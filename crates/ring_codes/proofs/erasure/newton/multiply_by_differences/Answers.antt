use Rattle.ring_codes.proofs.Names.{◌∙◌, arith, entry, entry_at, entry_read, forms_written, done_more}
use Rattle.ring_codes.proofs.erasure.newton.multiply_by_differences.Goals as goal

pub points-init : goal.points-init
points-init g c = grind arith

pub points-preserved : goal.points-preserved
points-preserved g c =
    let ring = g.R.Reducer in let m = ring.modulus c.args.r.now in let number = g.T.RingWord.number in
    let points = c.args.points.now in
    let old = entry number ring.value m c.args.products.now in
    let list = c.points.products in let i = c.points.i in let so_far = c.points.invariant in
    let own = entry_at number ring.value m list i c.index-products-i.result (omega arith)
    ∙ so_far.1.kept i (omega arith) in
    let here = entry_read number ring.value m points i _ (omega arith) c.index-points-i.is in
    let there = entry_read number ring.value m points c.args.place _ c.requires.inside c.index-points-place.is in
    let difference = rw (here, there) at c.sub-difference.ensures.value in (
      forms_written number ring.form ring.value m list i c.mul.result c.mul.ensures.checked so_far.0,
      done_more number ring.value m list i c.mul.result _ old (omega arith) so_far.1
          ((λ a. rw (own, difference) at c.mul.ensures.value), λ s. absurd (omega arith)),
    )
