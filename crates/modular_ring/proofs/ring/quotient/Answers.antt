use Rattle.modular_word.proofs.InverseLemmas.{inverse_of-none}
use Rattle.modular_ring.proofs.RunLemmas.{quotient_form}
use Rattle.modular_ring.proofs.ring.quotient.Goals as goal

pub returns-in_err-inverse : goal.returns-in_err-inverse
returns-in_err-inverse g c =
    rw (c.from_residual.ensures, inverse_of-none _ _ c.in_err-inverse.ensures.form) tt

pub returns : goal.returns
returns g c =
    quotient_form g.T.RingWord.number _ _ c.in_ok-inverse.inverse c.mul.result
    (g.met.R.Reducer.canonical c.args.r.now) c.in_ok-inverse.ensures.form c.mul.ensures.form
