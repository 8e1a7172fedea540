use Rattle.modular_barrett.proofs.Multiplier.{counted_digits, digits_below_leading}
use Rattle.modular_barrett.proofs.one_by_one.binary_digits.Goals as goal

pub returns : goal.returns
returns g c =
    let known =
    digits_below_leading g.T.RingWord.width g.T.PathWord.base c.bits.result c.leading_zeros.result
    (g.T.RingWord.number c.args.x) c.bits.ensures g.met.T.PathWord.base_is c.requires c.leading_zeros.ensures.fits
    c.leading_zeros.ensures.value in
    record { value = counted_digits known; at_most = known.at_most }
