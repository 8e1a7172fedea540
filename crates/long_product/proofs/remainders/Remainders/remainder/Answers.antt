use Rattle.std.proofs.Common.{◌*◌, ◌∙◌, arith}
use Rattle.long_product.proofs.Bounds.{combination_fits}
use Rattle.long_product.proofs.Coefficients.{reduced_factors, same_remainder}
use Rattle.long_product.proofs.remainders.Remainders.remainder.Goals as goal

pub overflow_add-low-2 : goal.overflow_add-low-2
overflow_add-low-2 c =
    let digits = c.mixed_digits-second.ensures in
    let l = combination_fits 18446744073709551616 _ _ _ c.args.self.now.first c.args.self.now.both c.requires.first
    digits.second digits.third (omega arith) (omega arith) in
    omega (arith, l)

pub remainder-requires : goal.remainder-requires
remainder-requires c =
    let digits = c.mixed_digits-second.ensures in
    combination_fits _ _ _ _ _ _ c.requires.first digits.second digits.third c.args.self.now.first_below
    c.args.self.now.both_below

pub returns-clause-value : goal.returns-clause-value
returns-clause-value c = λ x h.
    let digits = c.mixed_digits-second in
    c.remainder.ensures.value
    ∙ reduced_factors _ c.args.first digits.result.0 digits.result.1 1152921092289986561
    (1152921092289986561 * 1152920989210771457) _ _ c.args.self.now.first_is c.args.self.now.both_is
    ∙ same_remainder _ _ _ (digits.ensures.number x h)
