use Rattle.ring_codes.proofs.Names.{◌≡◌, ◌≢◌, ◌+◌, ◌-◌, ◌*◌, ◌%◌, ◌∙◌, set, cases_eq, ℕ, ap, sym, inl, inr, arith}
use Rattle.ring_codes.proofs.Names.{entry, entry_at, entry_written, entry_kept, forms_written}
use Rattle.ring_codes.proofs.NewtonForms.{difference_plus_multiple_congruent}
use Rattle.ring_codes.proofs.erasure.newton.subtract_multiples.Goals as goal

pub places-preserved : goal.places-preserved
places-preserved g c =
    let ring = g.R.Reducer in let m = ring.modulus c.args.r.now in let number = g.T.RingWord.number in
    let positive = (g.met.R.Reducer.canonical c.args.r.now).positive in
    let values = c.places.values in let i = c.places.i in let so_far = c.places.invariant in
    let old = entry number ring.value m c.args.values.now in
    let a = ring.value m (number c.args.point.now) in
    let before : ℕ = i - 1 in
    let new = set values before c.sub.result in
    let next = entry_at number ring.value m values i c.index-values-i.result (omega arith) ∙ so_far.3 i (omega arith) in
    let here = entry_at number ring.value m values before c.index-values-i-in-places.result (omega arith)
    ∙ so_far.3 before (omega arith) in
    let at_i : before + 1 ≡ i = omega arith in
    let product = c.mul-product.ensures.value ∙ ap (λ v. (a * v) % m) (next ∙ ap old (sym at_i)) in
    let one = difference_plus_multiple_congruent m a (ring.value m (number c.mul-product.result))
    (entry number ring.value m new before)
    (old before) (old (before + 1)) positive product
    (entry_written number ring.value m values before c.sub.result (omega arith) ∙ rw here at c.sub.ensures.value) in
    let kept = λ (k : ℕ) (other : k ≢ before). entry_kept number ring.value m values before k c.sub.result other in (
      forms_written number ring.form ring.value m values before c.sub.result c.sub.ensures.checked so_far.0,
      λ k l b. elim (cases_eq k before) [
        | inl e ↦ rw e one
        | inr other ↦ rw (kept k other) (so_far.1 k l (omega arith))
      ],
      λ k l. kept k (omega arith) ∙ so_far.2 k l,
      λ k l. kept k (omega arith) ∙ so_far.3 k (omega arith),
    )
