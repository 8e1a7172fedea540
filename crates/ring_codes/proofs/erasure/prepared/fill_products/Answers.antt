use Rattle.ring_codes.proofs.Names.{◌≡◌, ◌≢◌, ◌-◌, ◌%◌, ◌<◌, ◌∙◌, ◌-ℤ◌, ℕ, ap, arith, inl, inr, length, entry, entry_at}
use Rattle.ring_codes.proofs.Names.{entry_read, entry_written, entry_kept, forms_written, product_step, product_below}
use Rattle.ring_codes.proofs.Names.{pos, cases_eq, residue}
use Rattle.ring_codes.proofs.Lagrange.{product_of_parts}
use Rattle.ring_codes.proofs.erasure.prepared.fill_products.Goals as goal

pub backward-preserved : goal.backward-preserved
backward-preserved g c =
    let ring = g.R.Reducer in let m = ring.modulus c.args.r.now in let number = g.T.RingWord.number in
    let points = c.args.points.now in let x = entry number ring.value m points in
    let a = ring.value m (number c.args.point.now) in
    let n : ℕ = length points in let k = c.backward.k in let i : ℕ = n - 1 - k in
    let products = c.backward.products in
    let below : k < n = c.backward-test.true in
    let inside : i < n = omega (arith, below) in
    let within : i < length products = omega arith in
    let f : ℕ → ℕ = λ l. residue m (pos a -ℤ pos (x l)) in
    let back : ℕ → ℕ = λ l. f (n - 1 - l) in
    let so_far = c.backward.invariant in
    let before = entry_at number ring.value m products i c.index-products-i.result within in
    let point = entry_read number ring.value m points i _ inside c.index-points-i-in-backward.is in
    let count : k ≡ n - 1 - i = omega (arith, below) in
    let here = product_of_parts m n i _ a _ x (before ∙ so_far.1 i (omega (arith, below)))
    (so_far.3.same ∙ ap (λ j. product_below j back % m) count) in
    let kept = λ (j : ℕ) (other : j ≢ i). entry_kept number ring.value m products i j c.mul.result other in (
      forms_written number ring.form ring.value m products i c.mul.result c.mul.ensures.checked so_far.0,
      λ j l. kept j (omega (arith, l, below)) ∙ so_far.1 j (omega (arith, l)),
      λ j l b. elim (cases_eq j i) [
        | inl e ↦ rw e (entry_written number ring.value m products i c.mul.result within ∙ c.mul.ensures.value ∙ here)
        | inr other ↦ kept j other ∙ so_far.2 j (omega (arith, l, other, below)) b
      ],
      record {
        checked = c.mul-after.ensures.checked;
        same = c.mul-after.ensures.value
            ∙ product_step m k _ _ back so_far.3.same
            (c.sub-difference-in-backward.ensures.value ∙ ap (λ v. residue m (pos a -ℤ pos v)) point);
      },
    )
