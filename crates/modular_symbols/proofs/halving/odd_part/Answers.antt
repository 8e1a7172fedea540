-- The trailing zeros are the exponent of 2.
use Rattle.std.proofs.Common.{◌<◌, arith, subst, sym}
use Rattle.modular_symbols.proofs.TwoPart.{Halved, Halved-of_shift, trailing_zeros_below_width}
use Rattle.modular_symbols.proofs.halving.odd_part.Goals as goal
use Rattle.modular_symbols.proofs.halving.odd_part.Goals.{After-shift_right}

shifted_is_odd_part : (g : _) (c : After-shift_right g)
    → Halved (g.T.RingWord.number c.args.a) c.trailing_zeros-twos.result (g.T.RingWord.number c.shift_right.result)
shifted_is_odd_part g c =
    let fits = subst (λ b. g.T.RingWord.number c.args.a < b) g.met.T.PathWord.base_is c.trailing_zeros-twos.ensures.fits
    in
    Halved-of_shift _ _ _ _
    (λ e. omega (arith, e, c.requires)) fits c.trailing_zeros-twos.ensures.value c.shift_right.ensures.value

pub shift_right-requires : goal.shift_right-requires
shift_right-requires g c =
    let n = g.T.RingWord.number in
    let fits = subst (λ b. n c.args.a < b) g.met.T.PathWord.base_is c.trailing_zeros-twos.ensures.fits in
    subst (λ s. s < g.T.RingWord.width) (sym c.trailing_zeros-twos.ensures.value) (trailing_zeros_below_width _ _
    c.requires fits)

pub returns-else-bits-le16-clause-odd : goal.returns-else-bits-le16-clause-odd
returns-else-bits-le16-clause-odd g c =
    (shifted_is_odd_part g (goal.at.returns-else-bits-le16-clause-odd g c).After-shift_right).odd

pub returns-else-bits-le16-clause-whole : goal.returns-else-bits-le16-clause-whole
returns-else-bits-le16-clause-whole g c =
    (shifted_is_odd_part g (goal.at.returns-else-bits-le16-clause-whole g c).After-shift_right).whole
