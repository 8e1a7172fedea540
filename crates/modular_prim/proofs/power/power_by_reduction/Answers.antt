use Rattle.std.proofs.Common.{ℕ, ◌≡◌, ◌*◌, ◌%◌, ap, ◌∙◌, arith}
use Rattle.std.proofs.Math.Nat.{mod-lt}
use Rattle.modular_prim.proofs.PowerSteps.{start_odd, start_even, odd_step_keeps_power_forms}
use Rattle.modular_prim.proofs.PowerSteps.{even_step_keeps_power_forms, power_at_end}
use Rattle.modular_prim.proofs.PowerSteps.{product_below_scaled_modulus, square_reduced, reduction_is_next_product}
use Rattle.modular_prim.proofs.power.power_by_reduction.Goals as goal
use Rattle.modular_prim.proofs.power.power_by_reduction.Goals.{then-is_odd, else-is_odd, then-is_odd-2, else-is_odd-2}

pub digits-init : goal.digits-init
digits-init g c =
    let n = g.T.RingWord.number in
    let b = g.T.PathWord.base in
    let m = n c.args.m in
    let whole : g.T.PathWord.double_number c.merge.result ≡ n c.args.base * b =
    omega (arith, c.merge.ensures.value, c.zero.ensures) in
    let power = c.narrow_remainder-power.ensures.value ∙ ap (λ v. v % m) whole in
    elim c.if-is_odd.branch [
      | then-is_odd w ↦
          start_odd (λ v. (v * b) % m) (λ y. y) _ _ _ c.requires.below power (ap n w.product-is)
          c.half-rest.ensures.value (grind arith)
      | else-is_odd w ↦
          start_even (λ v. (v * b) % m) (λ y. y) _ _ _ c.requires.below power
          (ap n w.product-is ∙ w.reduced-product.ensures.value ∙ ap (λ v. v % m) w.one.ensures)
          c.half-rest.ensures.value (grind arith)
    ]

pub redc-power-requires-clause-below : goal.redc-power-requires-clause-below
redc-power-requires-clause-below g c =
    let w = c.digits.invariant in
    product_below_scaled_modulus _ _ c.product.ensures.value c.product.ensures.fits
    (omega (arith, w.power_is, w.x_below, mod-lt (w.x * g.T.PathWord.base) {m = g.T.RingWord.number c.args.m}))

pub digits-preserved : goal.digits-preserved
digits-preserved g c =
    let n = g.T.RingWord.number in
    let b = g.T.PathWord.base in
    let m = n c.args.m in
    let squared = λ (x : ℕ) (e : n c.digits.power ≡ (x * b) % m).
    square_reduced _ _ _ x _ (omega (arith, c.product.ensures.fits)) c.neginv-negated_inverse.ensures e
    c.product.ensures.value c.redc-power.ensures in
    elim c.if-is_odd-2.branch [
      | then-is_odd-2 w ↦
          odd_step_keeps_power_forms (λ v. (v * b) % m) (λ y. y) _ c.digits.invariant squared
          (λ x y ex ey. ap n w.product-is
          ∙ reduction_is_next_product _ _ _ x _ _ (omega (arith, c.product.ensures.fits))
          c.neginv-negated_inverse.ensures ex
          w.product-then-is_odd-2.ensures.value w.redc-product.ensures ∙ ap (λ v. (x * v) % m) ey)
          c.half-rest-in-digits.ensures.value (grind arith)
      | else-is_odd-2 w ↦
          even_step_keeps_power_forms (λ v. (v * b) % m) (λ y. y) _ c.digits.invariant squared (ap n w.product-is)
          c.half-rest-in-digits.ensures.value (grind arith)
    ]

pub returns : goal.returns
returns g c = c.digits.invariant.product_is ∙ power_at_end c.digits.invariant (grind arith)
