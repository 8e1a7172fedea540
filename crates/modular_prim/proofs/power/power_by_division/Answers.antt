use Rattle.std.proofs.Common.{ℕ, ◌≡◌, ◌*◌, ◌%◌, ap, ap₂, ◌∙◌, arith, refl}
use Rattle.modular_prim.proofs.PowerSteps.{start_odd, start_even, odd_step_keeps_power_forms}
use Rattle.modular_prim.proofs.PowerSteps.{even_step_keeps_power_forms, power_at_end}
use Rattle.modular_prim.proofs.power.power_by_division.Goals as goal
use Rattle.modular_prim.proofs.power.power_by_division.Goals.{then-is_odd, else-is_odd, then-is_odd-2, else-is_odd-2}

pub digits-init : goal.digits-init
digits-init g c =
    let n = g.T.RingWord.number in
    elim c.if-is_odd.branch [
      | then-is_odd w ↦
          start_odd (λ x. x) (λ y. y) _ _ _ c.requires refl (ap n w.product-is) c.half-rest.ensures.value (grind arith)
      | else-is_odd w ↦
          start_even (λ x. x) (λ y. y) _ _ _ c.requires refl
          (ap n w.product-is ∙ w.reduced-product.ensures.value ∙ ap (λ v. v % n c.args.m) w.one.ensures)
          c.half-rest.ensures.value (grind arith)
    ]

pub digits-preserved : goal.digits-preserved
digits-preserved g c =
    let n = g.T.RingWord.number in
    let squared = λ (x : ℕ) (e : n c.digits.power ≡ x). c.sqm-power.ensures ∙ ap (λ v. (v * v) % n c.args.m) e in
    elim c.if-is_odd-2.branch [
      | then-is_odd-2 w ↦
          odd_step_keeps_power_forms (λ x. x) (λ y. y) _ c.digits.invariant squared
          (λ x y ex ey. ap n w.product-is ∙ w.mulm-product.ensures ∙ ap₂ (λ u v. (u * v) % n c.args.m) ex ey)
          c.half-rest-in-digits.ensures.value (grind arith)
      | else-is_odd-2 w ↦
          even_step_keeps_power_forms (λ x. x) (λ y. y) _ c.digits.invariant squared (ap n w.product-is)
          c.half-rest-in-digits.ensures.value
          (grind arith)
    ]

pub returns : goal.returns
returns g c = c.digits.invariant.product_is ∙ power_at_end c.digits.invariant (grind arith)
