use Rattle.long_product.proofs.Coefficients.{reduced_product}
use Rattle.long_product.proofs.remainders.Remainders.modulo.Goals as goal

pub invariant_of-result : goal.invariant_of-result
invariant_of-result c = record {
  first_below = c.remainder-first.ensures.below;
  both_below = c.remainder.ensures.below;
  first_is = c.remainder-first.ensures.value;
  both_is = reduced_product _ 1152921092289986561 1152920989210771457 _ _ c.remainder-first.ensures.value
      c.remainder.ensures.value;
}
