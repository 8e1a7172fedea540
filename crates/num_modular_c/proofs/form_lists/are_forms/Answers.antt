use Rattle.modular_monty.proofs.TwoPartSteps.{parts, below_is_form}
use Rattle.num_modular_c.proofs.form_lists.are_forms.Goals as goal

pub returns-clause-below : goal.returns-clause-below
returns-clause-below c =
    let r = c.args.ring.now.ring in (
      λ t k d l. (parts r (c.all_checked.ensures.0 t k d l)).below,
      λ all. c.all_checked.ensures.1 (λ k d l. below_is_form r _ (all k d l)),
    )
