use Rattle.std.proofs.Common.{pos, neg_ℤ}
use Rattle.modular_word.specs.Residues.{residue}
use Rattle.modular_monty.specs.TwoPartLaws.{modulus_positive}
use Rattle.modular_monty.proofs.TwoPartSteps.{below_is_form, negative_made, odd_checked, odd_answered}
use Rattle.modular_monty.proofs.montgomery.MontgomeryReducer.neg.Goals as goal

pub neg-requires : goal.neg-requires
neg-requires g c = odd_checked c.args.self.now.ring c.if-self-eq0.true c.requires

pub returns-then-self-eq0 : goal.returns-then-self-eq0
returns-then-self-eq0 g c =
    odd_answered c.args.self.now.ring c.if-self-eq0.true
    (λ v m. residue m (neg_ℤ (pos (v (g.T.RingWord.number c.args.f))))) c.neg.ensures.form

pub sub-requires-clause-left : goal.sub-requires-clause-left
sub-requires-clause-left g c =
    let r = c.args.self.now.ring in rw c.zero.ensures (below_is_form r 0 (modulus_positive r))

pub returns : goal.returns
returns g c = negative_made c.args.self.now.ring (g.T.RingWord.number c.args.f) c.zero.ensures c.sub.ensures
