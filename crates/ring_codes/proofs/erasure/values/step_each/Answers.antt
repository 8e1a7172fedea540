use Rattle.ring_codes.proofs.Names.{◌∙◌, arith, entry, entry_at, entry_read, forms_written, done_more}
use Rattle.ring_codes.proofs.erasure.values.step_each.Goals as goal

pub points-preserved : goal.points-preserved
points-preserved g c =
    let ring = g.R.Reducer in let m = ring.modulus c.args.r.now in let number = g.T.RingWord.number in
    let list = c.points.values in let i = c.points.i in let so_far = c.points.invariant in
    let old = entry number ring.value m c.args.values.now in
    let point = entry_read number ring.value m c.args.points.now i _ (omega arith) c.index-points-i.is in
    let here = entry_at number ring.value m list i c.index-values-i.result (omega arith)
    ∙ so_far.1.kept i (omega arith) in
    let product = rw (here, point) at c.mul-product.ensures.value in (
      forms_written number ring.form ring.value m list i c.add.result c.add.ensures.checked so_far.0,
      done_more number ring.value m list i c.add.result _ old (omega arith) so_far.1
          (rw product at c.add.ensures.value),
    )
