use Rattle.std.proofs.Common.{◌<◌, ◌∙◌, subst}
use Rattle.num_modular_c.proofs.InPlace.{words_of_unloaded}
use Rattle.num_modular_c.proofs.lists.unload_from.Goals as goal

pub returns : goal.returns
returns g c =
    words_of_unloaded _ g.R.Reducer.value c.args.forms.now c.unload_forms.new.words
    (c.unload_forms.auto.words ∙ c.requires.room)
    (λ i l. c.unload_forms.ensures.values i (subst (λ n. i < n) c.unload_forms.auto.words l))
