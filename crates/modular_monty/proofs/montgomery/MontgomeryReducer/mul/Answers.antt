use Rattle.std.proofs.Common.{◌*◌, ◌%◌, arith}
use Rattle.modular_word.proofs.Congruence.{same_product}
use Rattle.modular_monty.proofs.TwoPartSteps.{operation_made, odd_checked, odd_answered}
use Rattle.modular_monty.proofs.montgomery.MontgomeryReducer.mul.Goals as goal

pub mul-requires : goal.mul-requires
mul-requires g c = search (arith, odd_checked c.args.self.now.ring c.if-self-eq0.true)

pub returns-then-self-eq0 : goal.returns-then-self-eq0
returns-then-self-eq0 g c =
    let n = g.T.RingWord.number in
    odd_answered c.args.self.now.ring c.if-self-eq0.true (λ v m. (v (n c.args.a.now) * v (n c.args.b.now)) % m)
    c.mul.ensures.form

pub returns : goal.returns
returns g c =
    operation_made c.args.self.now.ring (λ x y. x * y) same_product c.requires.left c.requires.right
    c.high.ensures.value c.high-2.ensures.value
    c.mul-high.ensures.form c.wrapping_mul.ensures.value c.form_of_parts.ensures
