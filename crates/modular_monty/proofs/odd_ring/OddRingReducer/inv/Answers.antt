use Rattle.modular_monty.specs.MontgomeryLaws.{montgomery_canonical}
use Rattle.modular_reduced.proofs.FormLemmas.{inverse_form_is_answer}
use Rattle.modular_monty.proofs.odd_ring.OddRingReducer.inv.Goals as goal

pub returns-in-Some : goal.returns-in-Some
returns-in-Some g c =
    inverse_form_is_answer g.T.RingWord.number
    (montgomery_canonical (g.met.M.OddModulus.is_odd_ring c.args.self.now.kept))
    c.residue.ensures.form (rw c.modulus.ensures at c.in-Some.ensures) c.transform.ensures.form
