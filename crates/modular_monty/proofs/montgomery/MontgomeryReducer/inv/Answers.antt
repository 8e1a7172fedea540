use Rattle.modular_monty.specs.TwoPartLaws.{two_part_canonical}
use Rattle.modular_reduced.proofs.FormLemmas.{inverse_form_is_answer}
use Rattle.modular_monty.proofs.montgomery.MontgomeryReducer.inv.Goals as goal

pub returns-in-Some : goal.returns-in-Some
returns-in-Some g c =
    inverse_form_is_answer g.T.RingWord.number (two_part_canonical c.args.self.now.ring)
    c.residue.ensures.form (rw c.modulus.ensures at c.in-Some.ensures) c.transform.ensures.form
