use Rattle.std.proofs.Common.{◌-◌, ◌*◌, arith}
use Rattle.long_product.proofs.Bounds.{times_divisor_above}
use Rattle.long_product.proofs.remainders.primes_for.Goals as goal

pub returns-then-product-terms-2-clause-not_one : goal.returns-then-product-terms-2-clause-not_one
returns-then-product-terms-2-clause-not_one c more =
    let f = times_divisor_above (c.args.x * c.args.y) 1152921092289986560 c.args.terms c.requires.some
    (omega (arith, c.if-product-terms.false)) in
    omega (arith, f)

pub returns-else-product-terms-2-clause-not_two : goal.returns-else-product-terms-2-clause-not_two
returns-else-product-terms-2-clause-not_two c more =
    let f = times_divisor_above (c.args.x * c.args.y) (1152921092289986561 * 1152920989210771457 - 1) c.args.terms
    c.requires.some (omega (arith, c.if-product-terms-2.false)) in
    omega (arith, f)
