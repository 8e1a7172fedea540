use Rattle.std.proofs.Common.{◌≡◌, ◌+◌, ◌*◌, sym, ◌∙◌, arith}
use Rattle.modular_plan_passes.proofs.DoubleWords.{minus_is_complement, difference_sum_fits_double_word}
use Rattle.modular_plan_passes.proofs.DoubleWords.{rest_is_low_word}
use Rattle.modular_reduced.proofs.FixedFactors.{estimated_quotient_is_near, IsNear}
use Rattle.modular_plan_passes.proofs.FactorProducts.{left_less}
use Rattle.modular_plan_passes.proofs.modulus.PlannedModulus.times_by_double_words.Goals as goal
use Rattle.modular_plan_passes.proofs.modulus.PlannedModulus.times_by_double_words.Goals.{After-product-3}

-- the product less the multiple of m that the quotient gives
is_near : (g : _) (c : After-product-3 g)
    → IsNear (g.T.RingWord.number c.args.self.now.modulus)
    (g.T.RingWord.number c.args.x * g.T.RingWord.number c.args.w.now.value) (g.T.RingWord.number c.split-whole.result.1)
is_near g c =
    estimated_quotient_is_near _ _ _ _ _ _ _ c.requires c.product.ensures.fits (sym c.product.ensures.value
    ∙ c.split-whole.ensures.value)
    c.split-whole.ensures.low_fits

-- what is added to m for the base
is_minus : (g : _) (c : After-product-3 g)
    → g.T.RingWord.number c.wrapping_sub-minus.result + g.T.RingWord.number c.args.self.now.modulus ≡ g.T.PathWord.base
is_minus g c =
    let self = c.args.self.now in
    minus_is_complement _ _ _ (omega (arith, self.some)) (omega (arith, self.room)) c.wrapping_sub-minus.ensures.fits
    (c.wrapping_sub-minus.ensures.value ∙ c.zero.ensures)

pub double_plus-requires : goal.double_plus-requires
double_plus-requires g c =
    let at = (goal.at.double_plus-requires g c).After-product-3 in
    let fits = difference_sum_fits_double_word _ _ _ _ _ (omega (arith, c.args.self.now.room))
    c.split-whole.ensures.high_fits
    (is_near g at).close (is_minus g at) in
    omega (arith, c.product-2.ensures.value, c.product-3.ensures.value, fits)

pub returns : goal.returns
returns g c =
    let n = g.T.RingWord.number in
    let at = (goal.at.returns g c).After-product-3 in
    let near_it = is_near g at in
    let sum : n c.args.x * n c.args.w.now.value + n c.split-whole.result.1 * n c.wrapping_sub-minus.result ≡
    n c.split-low.result.0 + g.T.PathWord.base * n c.split-low.result.1 =
    omega (
      arith,
      c.product-2.ensures.value,
      c.product-3.ensures.value,
      c.double_plus.ensures,
      c.split-low.ensures.value,
    ) in
    let left = left_less _ _ _ _ near_it
    (rest_is_low_word _ _ _ _ _ _ _ (omega (arith, c.args.self.now.room)) near_it.at_most near_it.close
    (is_minus g at) sum c.split-low.ensures.low_fits) in
    record { below = left.below; congruent = left.congruent }
