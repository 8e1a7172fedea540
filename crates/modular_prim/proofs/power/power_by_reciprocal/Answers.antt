use Rattle.std.proofs.Common.{ℕ, ◌≡◌, ◌*◌, ◌/◌, ◌%◌, ◌^◌, ◌<◌, ap, ◌∙◌, arith}
use Rattle.std.proofs.lemmas.Nat.{shl-shr}
use Rattle.modular_prim.proofs.Scaled.{IsNormalized, scaled_to_top, scaled_below, scaled_product_of}
use Rattle.modular_prim.proofs.PowerSteps.{start_odd, start_even, odd_step_keeps_power_forms}
use Rattle.modular_prim.proofs.PowerSteps.{even_step_keeps_power_forms, power_at_end}
use Rattle.modular_prim.proofs.power.power_by_reciprocal.Goals as goal
use Rattle.modular_prim.proofs.power.power_by_reciprocal.Goals.{After-leading_zeros-shift, then-is_odd}
use Rattle.modular_prim.proofs.power.power_by_reciprocal.Goals.{else-is_odd, then-is_odd-2, else-is_odd-2}

-- the modulus is scaled to the top
scaled_modulus_is_normalized : (g : _) (c : After-leading_zeros-shift g)
    → IsNormalized g.T.RingWord.width g.T.PathWord.base (g.T.RingWord.number c.args.m) c.leading_zeros-shift.result
scaled_modulus_is_normalized g c =
    scaled_to_top _ _ _ _ g.met.T.PathWord.base_is
    (let h : 0 < g.T.RingWord.number c.args.m = omega (arith, c.requires) in
    h) c.leading_zeros-shift.ensures.fits c.leading_zeros-shift.ensures.value

pub shift_left-divisor-requires-clause-fits : goal.shift_left-divisor-requires-clause-fits
shift_left-divisor-requires-clause-fits g c = grind (arith, scaled_modulus_is_normalized)

pub shift_left-product-requires-clause-fits : goal.shift_left-product-requires-clause-fits
shift_left-product-requires-clause-fits g c = grind arith

pub invert_word-reciprocal-requires : goal.invert_word-reciprocal-requires
invert_word-reciprocal-requires g c = grind (arith, scaled_modulus_is_normalized)

pub scaled_product-power-requires-clause-below : goal.scaled_product-power-requires-clause-below
scaled_product-power-requires-clause-below g c = grind (arith, scaled_below)

pub scaled_product-product-requires-clause-below : goal.scaled_product-product-requires-clause-below
scaled_product-product-requires-clause-below g c =
    let w = c.digits.invariant in
    omega (arith, w.product_is, scaled_below w.y _ c.leading_zeros-shift.result w.y_below, c.shift_left-divisor.ensures)

pub digits-init : goal.digits-init
digits-init g c =
    let n = g.T.RingWord.number in
    let p = 2 ^ c.leading_zeros-shift.result in
    elim c.if-is_odd.branch [
      | then-is_odd w ↦
          start_odd (λ x. x * p) (λ y. y * p) _ _ _ c.requires
          c.shift_left-power.ensures (ap n w.product-is ∙ c.shift_left-power.ensures) c.half-rest.ensures.value
          (grind arith)
      | else-is_odd w ↦
          start_even (λ x. x * p) (λ y. y * p) _ _ _ c.requires c.shift_left-power.ensures
          (ap n w.product-is ∙ w.shift_left-product.ensures
          ∙ ap (λ v. v * p) (w.reduced.ensures.value ∙ ap (λ v. v % n c.args.m) w.one.ensures))
          c.half-rest.ensures.value (grind arith)
    ]

pub digits-preserved : goal.digits-preserved
digits-preserved g c =
    let n = g.T.RingWord.number in
    let s = c.leading_zeros-shift.result in
    let some : 0 < n c.args.m = omega (arith, c.requires) in
    let squared = λ (x : ℕ) (e : n c.digits.power ≡ x * 2 ^ s).
    scaled_product_of _ s _ x x _ _ _ some c.shift_left-divisor.ensures e e c.scaled_product-power.ensures in
    elim c.if-is_odd-2.branch [
      | then-is_odd-2 w ↦
          odd_step_keeps_power_forms (λ x. x * 2 ^ s) (λ y. y * 2 ^ s) _ c.digits.invariant squared
          (λ x y ex ey.
          scaled_product_of _ s _ x y _ _ _ some c.shift_left-divisor.ensures ex ey (ap n w.product-is
          ∙ w.scaled_product-product.ensures))
          c.half-rest-in-digits.ensures.value (grind arith)
      | else-is_odd-2 w ↦
          even_step_keeps_power_forms (λ x. x * 2 ^ s) (λ y. y * 2 ^ s) _ c.digits.invariant squared (ap n w.product-is)
          c.half-rest-in-digits.ensures.value (grind arith)
    ]

pub returns : goal.returns
returns g c =
    let w = c.digits.invariant in
    c.shift_right.ensures.value ∙ ap (λ v. v / 2 ^ c.leading_zeros-shift.result) w.product_is
    ∙ shl-shr w.y _ ∙ power_at_end w (grind arith)
