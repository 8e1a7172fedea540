use Rattle.std.proofs.Common.{◌+◌, ◌%◌, arith}
use Rattle.modular_word.proofs.Congruence.{same_sum}
use Rattle.modular_monty.proofs.MontgomerySteps.{sum_made, form_below}
use Rattle.modular_monty.proofs.TwoPartSteps.{operation_made, odd_checked, odd_answered}
use Rattle.modular_monty.proofs.montgomery.MontgomeryReducer.add.Goals as goal

pub add_below-requires : goal.add_below-requires
add_below-requires g c =
    let r = c.args.self.now.ring in search (arith, form_below r.odd, odd_checked r c.if-self-eq0.true)

pub returns-then-self-eq0 : goal.returns-then-self-eq0
returns-then-self-eq0 g c =
    let n = g.T.RingWord.number in
    let r = c.args.self.now.ring in
    let none = c.if-self-eq0.true in
    let made =
    sum_made r.odd (odd_checked r none c.requires.left) (odd_checked r none c.requires.right) c.add_below.ensures.value
    in
    odd_answered r none (λ v m. (v (n c.args.a.now) + v (n c.args.b.now)) % m) made.form

pub returns : goal.returns
returns g c =
    operation_made c.args.self.now.ring (λ x y. x + y) same_sum c.requires.left c.requires.right
    c.high.ensures.value c.high-2.ensures.value
    c.add-high.ensures.form c.wrapping_add.ensures.value c.form_of_parts.ensures
