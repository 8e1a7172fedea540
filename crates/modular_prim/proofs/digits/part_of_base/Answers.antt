use Rattle.std.proofs.Common.{◌-◌, ◌^◌, arith}
use Rattle.modular_prim.proofs.DigitSteps.{part_times, partial_power_below_base, one_of}
use Rattle.modular_prim.proofs.digits.part_of_base.Goals as goal

pub shift_left-requires-clause-fits : goal.shift_left-requires-clause-fits
shift_left-requires-clause-fits g c =
    let k = c.bits.result - c.args.by in
    let less = partial_power_below_base {by = c.args.by} {k = k} c.requires.some
    (omega (arith, g.met.T.RingWord.width_from))
    g.met.T.PathWord.base_is (omega (arith, c.bits.ensures)) in
    omega (arith, less, (one_of (2 ^ k) c.one.ensures))

pub returns : goal.returns
returns g c =
    let whole = part_times {by = c.args.by} {k = c.bits.result - c.args.by} (omega (arith, g.met.T.RingWord.width_from))
    g.met.T.PathWord.base_is (omega (arith, c.bits.ensures)) in
    grind (arith, part_times, one_of)
