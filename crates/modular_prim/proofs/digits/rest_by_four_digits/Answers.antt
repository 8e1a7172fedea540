use Rattle.std.proofs.Common.{◌≡◌, ◌*◌, arith}
use Rattle.modular_prim.proofs.DigitSteps.{four_leave}
use Rattle.modular_prim.proofs.digits.rest_by_four_digits.Goals as goal

pub returns : goal.returns
returns g c =
    four_leave (let e : g.T.RingWord.number c.shift_left.result ≡ g.T.RingWord.number c.args.d * 16 =
    omega (arith, c.shift_left.ensures) in e)
    c.two_digits-left.ensures c.two_digits.ensures
