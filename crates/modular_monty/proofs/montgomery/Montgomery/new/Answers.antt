-- What is kept of m: its odd part, an odd number, and the exponent of the power of two.
use Rattle.std.proofs.Common.{◌*◌, ◌^◌, ap, ◌∙◌, arith}
use Rattle.modular_monty.proofs.Twos.{IsParted, parted_of, two_part_ring}
use Rattle.modular_monty.proofs.montgomery.Montgomery.new.Goals as goal
use Rattle.modular_monty.proofs.montgomery.Montgomery.new.Goals.{After-shift_right}

shifted_modulus_is_odd_part : (g : _) (c : After-shift_right g)
    → IsParted g.T.RingWord.width (g.T.RingWord.number c.args.m) c.trailing_zeros-twos.result
    (g.T.RingWord.number c.shift_right.result)
shifted_modulus_is_odd_part g c =
    parted_of _ _ _ _ _ g.met.T.PathWord.base_is c.requires c.trailing_zeros-twos.ensures.fits
    c.trailing_zeros-twos.ensures.value
    c.shift_right.ensures.value

pub new-requires : goal.new-requires
new-requires g c = (shifted_modulus_is_odd_part g (goal.at.new-requires g c).After-shift_right).odd

pub invariant_of-result : goal.invariant_of-result
invariant_of-result g c =
    let parts = shifted_modulus_is_odd_part g (goal.at.invariant_of-result g c).After-shift_right in
    search (arith, two_part_ring)

pub returns : goal.returns
returns g c =
    ap (λ k. k * 2 ^ c.trailing_zeros-twos.result) c.new.ensures
    ∙ (shifted_modulus_is_odd_part g (goal.at.returns g c).After-shift_right).whole
