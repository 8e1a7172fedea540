use Rattle.std.proofs.Common.{◌*◌, ◌%◌, pos, ◌-ℤ◌, arith}
use Rattle.modular_word.specs.Residues.{residue}
use Rattle.modular_monty.proofs.TwoPartSteps.{odd_checked, odd_answered}
use Rattle.modular_monty.proofs.montgomery.MontgomeryReducer.mul_difference.Goals as goal

pub mul_difference-requires : goal.mul_difference-requires
mul_difference-requires g c = search (arith, odd_checked c.args.self.now.ring c.if-self-eq0.true)

pub returns-then-self-eq0 : goal.returns-then-self-eq0
returns-then-self-eq0 g c =
    let n = g.T.RingWord.number in
    odd_answered c.args.self.now.ring c.if-self-eq0.true
    (λ v m. (residue m (pos (v (n c.args.a.now)) -ℤ pos (v (n c.args.b.now))) * v (n c.args.factor.now)) % m)
    c.mul_difference.ensures.form
