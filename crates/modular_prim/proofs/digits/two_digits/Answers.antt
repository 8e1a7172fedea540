use Rattle.std.proofs.Common.{◌≡◌, ◌+◌, ◌*◌, arith}
use Rattle.modular_prim.proofs.DigitSteps.{two_are}
use Rattle.modular_prim.proofs.digits.two_digits.Goals as goal

pub returns : goal.returns
returns g c =
    let n = g.T.RingWord.number in
    two_are (let e : n c.shift_left.result ≡ n c.args.d * 4 = omega (arith, c.shift_left.ensures) in e)
    c.digit-high.ensures c.digit-low.ensures
    (let e : n c.plus.result ≡ n c.digit-high.result.0 * 4 + n c.digit-low.result.0 =
    omega (arith, c.plus.ensures, c.shift_left-2.ensures) in e)
