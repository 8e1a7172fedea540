use Rattle.std.proofs.Common.{◌%◌, refl}
use Rattle.modular_monty.proofs.TwoPartSteps.{made, odd_answered}
use Rattle.modular_monty.proofs.montgomery.MontgomeryReducer.transform.Goals as goal

pub returns-then-self-eq0 : goal.returns-then-self-eq0
returns-then-self-eq0 g c =
    odd_answered c.args.self.now.ring c.if-self-eq0.true (λ v m. g.T.RingWord.number c.args.n % m)
    c.transform-high.ensures.form

pub returns : goal.returns
returns g c = made c.args.self.now.ring _ _ c.transform-high.ensures.form refl refl c.form_of_parts.ensures
