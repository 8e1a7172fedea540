use Rattle.ring_codes.proofs.Names.{◌-ℤ◌, ◌≢◌, ◌*◌, ◌%◌, ◌∙◌, pos, ap, arith, entry, entry_at, entry_read}
use Rattle.ring_codes.proofs.Names.{entry_written, entry_kept, form_read, forms_written, residue, newton_form}
use Rattle.ring_codes.proofs.NewtonForms.{one_divided}
use Rattle.ring_codes.proofs.erasure.newton.divide_differences.Goals as goal

pub points-preserved : goal.points-preserved
points-preserved g c =
    let ring = g.R.Reducer in let m = ring.modulus c.args.r.now in let number = g.T.RingWord.number in
    let points = c.args.points.now in let values = c.points.values in let i = c.points.i in
    let so_far = c.points.invariant in
    let x = entry number ring.value m points in
    let known = ring.value m (number c.newton_value-known.result) in
    let rest = ring.value m (number c.sub-rest.result) in
    let point = entry_read number ring.value _ points i _ (omega arith) c.index-points-i.is in
    let same = entry_read number ring.value _ values i _ (omega arith) c.index-values-i.is ∙ so_far.2 i (omega arith) in
    let read = entry_at number ring.value _ values i c.index-values-i.result (omega arith) ∙ so_far.2 i (omega arith) in
    let inverse = entry_read number ring.value _ c.args.inverses.now i _ (omega arith) c.index-inverses-i.is in
    let is = form_read number ring.form ring.value _ values i _ so_far.0 (omega arith) c.index-values-i.is in
    let below = is.below in (
      forms_written number ring.form ring.value _ values i c.mul.result c.mul.ensures.checked so_far.0,
      one_divided _ i _ _ x _ known rest
          _ so_far.1
          (λ k l. let other : k ≢ i = omega arith in entry_kept number ring.value _ values i k c.mul.result other)
          (c.newton_value-known.ensures.value ∙ ap (λ a. newton_form m (entry number ring.value m values) x a 0 i % m)
          point)
          (c.sub-rest.ensures.value ∙ ap (λ v. residue m (pos v -ℤ pos known)) read)
          (c.requires.inverse i (omega arith))
          (entry_written number ring.value _ values i c.mul.result (omega arith) ∙ c.mul.ensures.value
          ∙ ap (λ v. (rest * v) % m) inverse)
          (omega (arith, below, same)),
      λ k l. let other : k ≢ i = omega arith in
          entry_kept number ring.value _ values i k c.mul.result other ∙ so_far.2 k (omega arith),
    )
