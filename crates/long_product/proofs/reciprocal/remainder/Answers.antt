use Rattle.long_product.proofs.Scaled.{shifted_dividend_below_divisor}
use Rattle.long_product.proofs.reciprocal.remainder.Goals as goal

pub div_rem_2by1-rest-requires : goal.div_rem_2by1-rest-requires
div_rem_2by1-rest-requires c = shifted_dividend_below_divisor _ _ _ _ _ c.requires c.divider.ensures
    c.shift-shift.ensures
