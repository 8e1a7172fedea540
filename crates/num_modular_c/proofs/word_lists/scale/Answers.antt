use Rattle.std.proofs.Common.{◌<◌, ◌∙◌, subst, sym}
use Rattle.num_modular_c.proofs.WordLists.{product_of_words}
use Rattle.num_modular_c.proofs.word_lists.scale.Goals as goal

pub returns : goal.returns
returns g c =
    λ i l. c.unload.ensures i (subst (λ n. i < n) (sym (c.scale_list.auto.xs ∙ c.load.auto.xs)) l)
    ∙ c.scale_list.ensures.values i (subst (λ n. i < n) (sym c.load.auto.xs) l)
    ∙ product_of_words _ _ _ _ _ (c.load.ensures.values i l) c.transform.ensures.value
