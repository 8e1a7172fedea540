use Rattle.std.proofs.Common.{refl, arith}
use Rattle.std.proofs.lemmas.Bool.{false≢true}
use Rattle.modular_word.proofs.Congruence.{mod_sym}
use Rattle.modular_transform.proofs.ConvolveLemmas.{inverse_along}
use Rattle.modular_reduced.proofs.ListSteps.{held_values}
use Rattle.modular_transform.proofs.convolution.convolve.Goals as goal

pub multiply-requires-clause-inverse : goal.multiply-requires-clause-inverse
multiply-requires-clause-inverse g c = inverse_along c.length_form-length.ensures.counted c.in-Some.ensures.value

pub returns-in-Some-clause-inverse : goal.returns-in-Some-clause-inverse
returns-in-Some-clause-inverse g c =
    (λ h. (_, inverse_along c.length_form-length.ensures.counted c.in-Some.ensures.value), λ h. refl)

pub returns-in-Some-clause-values : goal.returns-in-Some-clause-values
returns-in-Some-clause-values g c h e l =
    held_values g.T.RingWord.number c.multiply.new.xs _ e
    (g.met.R.Reducer.canonical c.args.r.now) c.multiply.ensures.product (omega arith)

pub returns-in-Some-clause-transformed_values : goal.returns-in-Some-clause-transformed_values
returns-in-Some-clause-transformed_values g c h j l =
    held_values _ _ _ _ (g.met.R.Reducer.canonical c.args.r.now) c.multiply.ensures.transformed (omega arith)

pub returns-in-None-clause-inverse : goal.returns-in-None-clause-inverse
returns-in-None-clause-inverse g c = search (arith, false≢true, inverse_along, mod_sym)
