use Rattle.std.proofs.Common.{◌*◌, ◌/◌, ◌≤◌, arith}
use Rattle.std.proofs.Math.Nat.{mul-le-mul_right, mul-le-mul_left}
use Rattle.std.proofs.lemmas.Bool.Decides.{nat_tests}
use Rattle.long_product.proofs.Bounds.{times_divisor}
use Rattle.long_product.proofs.two_parts.fit_parts.Goals as goal

pub returns : goal.returns
returns c = λ is.
    let n = c.args.n in
    let y = c.greatest-2.result in
    let part = c.max-part.result in
    let few : part * y ≤ 1152921092289986560 / n = grind (arith, nat_tests, is) in
    let whole = times_divisor (part * y) 1152921092289986560 n few in
    record {
      x = c.greatest.result;
      y = y;
      left = c.greatest.ensures;
      right = c.greatest-2.ensures;
      low = omega (arith, whole, mul-le-mul_left n (mul-le-mul_right y (let l : 32767 ≤ part = omega arith in l)));
      high =
          let l : c.greatest.result / 32768 ≤ part = omega arith in
          omega (arith, whole, mul-le-mul_left n (mul-le-mul_right y l));
    }
