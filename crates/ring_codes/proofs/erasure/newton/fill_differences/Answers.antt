use Rattle.ring_codes.proofs.Names.{◌+◌, ◌-◌, ◌<◌, ◌∙◌, inl, inr, cases_lt, ℕ, arith, entry, length, difference}
use Rattle.ring_codes.proofs.Lagrange.{products_so_far_more, product_but_whole}
use Rattle.ring_codes.proofs.erasure.newton.fill_differences.Goals as goal

pub points-preserved : goal.points-preserved
points-preserved g c =
    let ring = g.R.Reducer in let m = ring.modulus c.args.r.now in let number = g.T.RingWord.number in
    let points = c.args.points.now in let n : ℕ = length points in let x = entry number ring.value m points in
    let k = c.points.k in let so_far = c.points.invariant in let step = c.multiply_by_differences.ensures in
    let inside : k < n = c.points-test.true in (
      step.checked,
      λ i l. step.multiplied i (omega arith) (omega (arith, l, inside))
          ∙ products_so_far_more m i k (difference m x i) (λ j. difference m x i (n - 1 - j))
          (so_far.1 i (omega (arith, l))),
      λ i l b. elim (cases_lt (i + k) n) [
        | inl last ↦ step.behind i (omega (arith, l, b, inside))
            ∙ product_but_whole m n i k x (omega (arith, b, last)) (so_far.1 i last)
        | inr before ↦ step.behind i (omega (arith, l, before, inside)) ∙ so_far.2 i l before
      ],
    )
