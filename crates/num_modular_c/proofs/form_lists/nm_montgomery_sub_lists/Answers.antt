use Rattle.std.proofs.Common.{refl, pos, ◌-ℤ◌}
use Rattle.num_modular.specs.Residues.{residue}
use Rattle.num_modular_c.proofs.WordLists.{forms_of_outcomes}
use Rattle.num_modular_c.proofs.form_lists.nm_montgomery_sub_lists.Goals as goal

pub returns-clause-did : goal.returns-clause-did
returns-clause-did c is fit = (
  refl,
  forms_of_outcomes _ _ (λ m v w. residue m (pos v -ℤ pos w)) _ _ _ c.in-Ok.ensures.0 c.sub_lists.auto.xs
      c.in-Ok.ensures.2.equal c.sub_lists.ensures.checked c.sub_lists.ensures.values,
)
