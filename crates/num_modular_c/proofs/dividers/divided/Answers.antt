use Rattle.std.proofs.Common.{arith}
use Rattle.std.proofs.Math.Nat.{mod-eq_of_lt}
use Rattle.std.specs.Int.Count.{count_leading_zeros}
use Rattle.num_modular_c.proofs.Division.{IsScaledDividend, scaled_dividend, division_unscaled}
use Rattle.num_modular_c.proofs.dividers.divided.Goals as goal
use Rattle.num_modular_c.proofs.dividers.divided.Goals.{After-to_the_top}

-- the dividend moved as far as the divisor
dividend_is_scaled : (c : After-to_the_top) → IsScaledDividend 18446744073709551616 c.merge.result
    c.args.divider.now.divisor (count_leading_zeros 64 c.args.divider.now.divisor) c.to_the_top.result
dividend_is_scaled c =
    scaled_dividend _ _ _ _ _ (omega (arith, c.merge.ensures, c.requires.high, c.ranges.low.fits))
    c.to_the_top.ensures.value c.to_the_top.type_inv

pub div_2by1-quotient-requires-clause-high : goal.div_2by1-quotient-requires-clause-high
div_2by1-quotient-requires-clause-high c =
    let m = dividend_is_scaled (goal.at.div_2by1-quotient-requires-clause-high c).After-to_the_top in
    omega (arith, mod-eq_of_lt m.fits, m.high)

pub returns : goal.returns
returns c =
    let m = dividend_is_scaled (goal.at.returns c).After-to_the_top in
    rw c.merge.ensures at (division_unscaled (count_leading_zeros 64 c.args.divider.now.divisor)
    (omega (arith, c.requires.high))
    (rw (mod-eq_of_lt m.fits, c.to_the_top.ensures.value) at c.div_2by1-quotient.ensures))
