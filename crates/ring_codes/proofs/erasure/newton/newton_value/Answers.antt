use Rattle.ring_codes.proofs.Names.{◌-ℤ◌, ◌≡◌, ◌≢◌, ◌+◌, ◌-◌, ◌*◌, ◌/◌, ◌%◌, ◌∙◌, pos, ℕ, ap, arith, entry, entry_read}
use Rattle.ring_codes.proofs.Names.{form_read, IsForm, Congruent, residue, newton_form}
use Rattle.ring_codes.proofs.NewtonForms.{part_of_none, part_of_top, part_of_no_top, part_of_more}
use Rattle.ring_codes.proofs.NewtonForms.{product_of_none, product_of_more, value_joined}
use Rattle.ring_codes.proofs.erasure.newton.newton_value.Goals as goal
use Rattle.ring_codes.proofs.erasure.newton.newton_value.Goals.{then-count-eq1, else-count-eq1}

pub coefficients-init : goal.coefficients-init
coefficients-init g c =
    let ring = g.R.Reducer in let m = ring.modulus c.args.r.now in let number = g.T.RingWord.number in
    let e = entry number ring.value m c.args.form.now in let x = entry number ring.value m c.args.points.now in
    let n = c.args.count in let a = ring.value m (number c.args.point.now) in let h : ℕ = n / 2 in
    let zero = c.transform-low.ensures.value ∙ ap (λ v. v % m) c.zero.ensures in
    let one = c.transform-product.ensures.value ∙ ap (λ v. v % m) c.one.ensures in
    let high : IsForm ring.form ring.value m (number c.if-count-eq1.high)
    × Congruent m (ring.value m (number c.if-count-eq1.high)) (newton_form m e x a (2 * (n / 2) - 0)
    (0 + (n - 2 * (n / 2)))) =
    elim c.if-count-eq1.branch [
      | then-count-eq1 w ↦
          let odd : n % 2 ≡ 1 = omega (arith, w.if-count-eq1) in
          let top = entry_read number ring.value m c.args.form.now (n - 1) _
          (omega (arith, odd, c.requires.form_within))
          w.index-form-count.is in
          let checked = form_read number ring.form ring.value m c.args.form.now (n - 1) _ c.requires.form
          (omega (arith, odd, c.requires.form_within)) w.index-form-count.is in
          rw w.high-is (checked, part_of_top m n a _ e x odd top)
      | else-count-eq1 w ↦
          let even : n % 2 ≢ 1 = λ odd. omega (arith, w.if-count-eq1, odd) in
          rw w.high-is (c.transform-low.ensures.checked, part_of_no_top m n a _ e x even zero)
    ] in (
      c.transform-low.ensures.checked,
      part_of_none m a (h - 0) _ e x zero,
      c.transform-product.ensures.checked,
      product_of_none m a (h - 0) _ x one,
      high.0,
      high.1,
    )

pub coefficients-preserved : goal.coefficients-preserved
coefficients-preserved g c =
    let ring = g.R.Reducer in let m = ring.modulus c.args.r.now in let number = g.T.RingWord.number in
    let form = c.args.form.now in let points = c.args.points.now in
    let e = entry number ring.value m form in let x = entry number ring.value m points in
    let n = c.args.count in let a = ring.value m (number c.args.point.now) in
    let h : ℕ = n / 2 in let k = c.coefficients.k in let before = c.coefficients.invariant in
    let i : ℕ = h - 1 - k in let j : ℕ = 2 * h - 1 - k in
    let at_i : i ≡ h - (k + 1) = omega arith in
    let at_j : j ≡ 2 * h - (k + 1) = omega arith in
    let form_i = entry_read number ring.value m form i _ (omega (arith, c.requires.form_within)) c.index-form-i.is
    ∙ ap e at_i in
    let form_j = entry_read number ring.value m form j _ (omega (arith, c.requires.form_within)) c.index-form-j.is
    ∙ ap e at_j in
    let point_i = entry_read number ring.value m points i _ (omega (arith, c.requires.points_within))
    c.index-points-i.is ∙ ap x at_i in
    let point_j = entry_read number ring.value m points j _ (omega (arith, c.requires.points_within))
    c.index-points-j.is ∙ ap x at_j in
    let low = c.sub-difference.ensures.value ∙ ap (λ v. residue m (pos a -ℤ pos v)) point_i in
    let high = c.sub-difference-in-coefficients.ensures.value ∙ ap (λ v. residue m (pos a -ℤ pos v)) point_j in (
      c.newton_step-low.ensures.checked,
      part_of_more m (h - (k + 1)) (h - k) k (k + 1) e x a _ _ _ _ (omega arith) (omega arith) low form_i
          c.newton_step-low.ensures.value before.1,
      c.mul-product.ensures.checked,
      product_of_more m (h - (k + 1)) (h - k) k (k + 1) x a _ _ _ (omega arith) (omega arith) low
          c.mul-product.ensures.value before.3,
      c.newton_step-high.ensures.checked,
      part_of_more m (2 * h - (k + 1)) (2 * h - k) (k + (n - 2 * h)) (k + 1 + (n - 2 * h)) e x a _ _ _ _ (omega arith)
          (omega arith) high form_j c.newton_step-high.ensures.value before.5,
    )

pub returns-clause-value : goal.returns-clause-value
returns-clause-value g c =
    let ring = g.R.Reducer in let m = ring.modulus c.args.r.now in let number = g.T.RingWord.number in
    let e = entry number ring.value m c.args.form.now in let x = entry number ring.value m c.args.points.now in
    let n = c.args.count in let a = ring.value m (number c.args.point.now) in let h : ℕ = n / 2 in
    let last = c.coefficients.invariant in
    let done : c.coefficients.k ≡ h = omega (arith, c.coefficients-test.false, c.coefficients.auto.k-end) in
    c.newton_step.ensures.value ∙ (value_joined m n h c.coefficients.k e x a _ _ _ done (omega arith) last.1 last.3
    last.5).same
