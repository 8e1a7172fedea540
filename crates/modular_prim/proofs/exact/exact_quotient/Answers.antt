use Rattle.std.proofs.Common.{◌≡◌, ◌*◌, ◌/◌, ap, arith}
use Rattle.modular_prim.proofs.exact.exact_quotient.Goals as goal

pub returns-then-is_zero_word : goal.returns-then-is_zero_word
returns-then-is_zero_word g c =
    let n = g.T.RingWord.number in
    let a = n c.args.n in
    let d = n c.args.d in
    let e : n c.quotient.result * d ≡ a / d * d = ap (λ v. v * d) c.quotient.ensures in
    omega (arith, c.remainder.ensures.value)

pub returns-else-is_zero_word : goal.returns-else-is_zero_word
returns-else-is_zero_word g c = grind arith
