use Rattle.std.proofs.Common.{sym, pos, ◌-ℤ◌, arith}
use Rattle.modular_word.specs.Residues.{residue}
use Rattle.modular_monty.proofs.TwoPartSteps.{difference_made, low_word, odd_checked, odd_answered}
use Rattle.modular_monty.proofs.montgomery.MontgomeryReducer.sub.Goals as goal

pub sub-requires : goal.sub-requires
sub-requires g c = search (arith, odd_checked c.args.self.now.ring c.if-self-eq0.true)

pub returns-then-self-eq0 : goal.returns-then-self-eq0
returns-then-self-eq0 g c =
    let n = g.T.RingWord.number in
    odd_answered c.args.self.now.ring c.if-self-eq0.true
    (λ v m. residue m (pos (v (n c.args.a.now)) -ℤ pos (v (n c.args.b.now)))) c.sub.ensures.form

pub returns : goal.returns
returns g c =
    let r = c.args.self.now.ring in
    difference_made r _ c.requires.left c.requires.right c.high.ensures.value c.high-2.ensures.value
    c.sub-high.ensures.form (sym (low_word r _ (sym c.wrapping_sub.ensures.value))) c.form_of_parts.ensures
