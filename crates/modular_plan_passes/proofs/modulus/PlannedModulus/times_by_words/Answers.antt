use Rattle.std.proofs.Common.{sym, ◌∙◌, arith}
use Rattle.modular_reduced.proofs.FixedFactors.{estimated_quotient_is_near}
use Rattle.modular_plan_passes.proofs.FactorProducts.{left_over}
use Rattle.modular_plan_passes.proofs.modulus.PlannedModulus.times_by_words.Goals as goal

pub returns : goal.returns
returns g c =
    let self = c.args.self.now in
    let near_it = estimated_quotient_is_near _ _ _ _ _ _ _ c.requires c.product.ensures.fits
    (sym c.product.ensures.value ∙ c.split-whole.ensures.value) c.split-whole.ensures.low_fits in
    let left = left_over _ _ _ _ _ _ _ (omega (arith, self.some, self.room)) (omega (arith, self.room)) near_it
    c.wrapping_mul-product.ensures.value c.wrapping_mul.ensures.value c.wrapping_sub.ensures.fits
    c.wrapping_sub.ensures.value in
    record { below = left.below; congruent = left.congruent }
