use Rattle.modular_reduced.proofs.FormLemmas.{inverse_form_is_answer}
use Rattle.modular_secret.proofs.forms.inv_secret.Goals as goal

pub returns-in-Some : goal.returns-in-Some
returns-in-Some g c =
    inverse_form_is_answer g.T.RingWord.number (g.met.R.Reducer.canonical c.args.reducer.now) c.residue.ensures.form
    (rw c.modulus.ensures at c.in-Some.ensures) c.transform.ensures.form
