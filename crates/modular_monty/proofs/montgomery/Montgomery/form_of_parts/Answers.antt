use Rattle.std.proofs.Common.{arith}
use Rattle.std.proofs.Math.Nat.{mod-lt}
use Rattle.std.proofs.lemmas.Nat.{pow_pos}
use Rattle.modular_monty.specs.TwoPartLaws.{parts_below}
use Rattle.modular_monty.proofs.montgomery.Montgomery.form_of_parts.Goals as goal

pub plus-requires : goal.plus-requires
plus-requires g c =
    let r = c.args.self.now.ring in
    let below = parts_below r c.requires (mod-lt (g.T.RingWord.number c.args.low) (pow_pos c.args.self.now.twos)) in
    omega (arith, c.shift_left.ensures, c.low_bits.ensures.value, below, r.fits)
