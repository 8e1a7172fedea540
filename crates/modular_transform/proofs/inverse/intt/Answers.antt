use Rattle.std.proofs.Common.{refl, ◌∙◌, arith}
use Rattle.std.proofs.lemmas.Bool.{false≢true}
use Rattle.std.proofs.Math.Nat.{mod-eq_of_lt}
use Rattle.modular_word.proofs.Congruence.{mod_sym}
use Rattle.modular_reduced.proofs.ListSteps.{held_values}
use Rattle.modular_transform.proofs.ValueLemmas.{values_below}
use Rattle.modular_transform.proofs.ConvolveLemmas.{inverse_along}
use Rattle.modular_transform.proofs.TransformBack.{undone_at, restored_at}
use Rattle.modular_transform.proofs.inverse.intt.Goals as goal

pub returns-in-Some-clause-inverse : goal.returns-in-Some-clause-inverse
returns-in-Some-clause-inverse g c =
    (λ h. (_, inverse_along c.length_form-length.ensures.counted c.in-Some.ensures.value), λ h. refl)

pub returns-in-Some-clause-values : goal.returns-in-Some-clause-values
returns-in-Some-clause-values g c h j l =
    let inverse = inverse_along c.length_form-length.ensures.counted c.in-Some.ensures.value in
    restored_at _ _ _ _ _ _ _ c.requires.root.below c.requires.suits inverse l
    (λ i k. held_values _ _ _ _ (g.met.R.Reducer.canonical c.args.r.now) c.transform_back.ensures.entries
    (omega arith)) ∙ mod-eq_of_lt (values_below g.T.RingWord.number g.R.Reducer.form g.R.Reducer.value
    (g.R.Reducer.modulus c.args.r.now) c.args.xs.now j c.requires.checked l)

pub returns-in-Some-clause-undone : goal.returns-in-Some-clause-undone
returns-in-Some-clause-undone g c h x are i l =
    held_values _ _ _ i (g.met.R.Reducer.canonical c.args.r.now) c.transform_back.ensures.entries (omega arith)
    ∙ undone_at _ _ _ _ _ _ _ c.requires.suits
    (inverse_along c.length_form-length.ensures.counted c.in-Some.ensures.value) l are

pub returns-in-None-clause-inverse : goal.returns-in-None-clause-inverse
returns-in-None-clause-inverse g c = search (arith, false≢true, inverse_along, mod_sym)
