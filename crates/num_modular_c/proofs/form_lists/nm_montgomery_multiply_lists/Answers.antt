use Rattle.std.proofs.Common.{refl, ◌*◌, ◌%◌}
use Rattle.num_modular_c.proofs.WordLists.{forms_of_outcomes}
use Rattle.num_modular_c.proofs.form_lists.nm_montgomery_multiply_lists.Goals as goal

pub returns-clause-did : goal.returns-clause-did
returns-clause-did c is fit = (
  refl,
  forms_of_outcomes _ _ (λ m v w. (v * w) % m) _ _ _ c.in-Ok.ensures.0 c.multiply_lists.auto.xs
      c.in-Ok.ensures.2.equal c.multiply_lists.ensures.checked c.multiply_lists.ensures.values,
)
