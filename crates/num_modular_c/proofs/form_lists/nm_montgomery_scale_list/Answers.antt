use Rattle.std.proofs.Common.{refl, ◌*◌, ◌%◌, sym}
use Rattle.std.proofs.lemmas.Bool.{false≢true}
use Rattle.num_modular_c.specs.Contexts.{value_of}
use Rattle.num_modular_c.proofs.WordLists.{forms_of_outcomes}
use Rattle.num_modular_c.proofs.form_lists.nm_montgomery_scale_list.Goals as goal

pub returns-then-not-are_forms-clause-did : goal.returns-then-not-are_forms-clause-did
returns-then-not-are_forms-clause-did c is all below =
    absurd (false≢true ((rw (sym c.in-Ok.ensures.0) at c.if-not-are_forms.ensures.below).1 all))

pub returns-clause-did : goal.returns-clause-did
returns-clause-did c is all below = (
  refl,
  forms_of_outcomes _ _ (λ m v w. (v * value_of m c.args.factor) % m) _ c.args.xs.now _ c.in-Ok.ensures.0
      c.scale_list.auto.xs refl c.scale_list.ensures.checked c.scale_list.ensures.values,
)

pub returns-clause-bad_argument : goal.returns-clause-bad_argument
returns-clause-bad_argument c is none =
    absurd (none (rw (sym c.in-Ok.ensures.0) at (c.if-not-are_forms.ensures.below.0 refl), c.in-Ok.ensures.2))
