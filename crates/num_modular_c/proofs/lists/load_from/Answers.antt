use Rattle.std.proofs.Common.{◌%◌, ◌<◌, ◌∙◌, ap, subst, sym}
use Rattle.std.proofs.lemmas.List.{get_or-map}
use Rattle.num_modular_c.proofs.InPlace.{values_of_loaded}
use Rattle.num_modular_c.proofs.lists.load_from.Goals as goal

pub returns-clause-values : goal.returns-clause-values
returns-clause-values g c =
    let m = g.R.Reducer.modulus c.args.r.now in
    values_of_loaded m g.R.Reducer.value c.args.words.now c.load_forms.new.forms (c.load_forms.auto.forms ∙ c.requires)
    (λ i l. c.load_forms.ensures.values i (subst (λ n. i < n) (sym c.requires) l)
    ∙ ap (λ v. v % m) (get_or-map (λ x. x) c.args.words.now i 0 0 l))
