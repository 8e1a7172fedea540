use Rattle.std.proofs.Common.{refl, ◌∙◌, ◌%◌, ap, sym}
use Rattle.num_modular_c.specs.Contexts.{value_of}
use Rattle.num_modular_c.proofs.WordLists.{products_of_values}
use Rattle.num_modular_c.proofs.form_lists.nm_montgomery_dot_product.Goals as goal

pub returns-clause-did : goal.returns-clause-did
returns-clause-did c is fit =
    let q = c.args.context.now.modulus in (
      refl,
      (
        rw (sym c.in-Ok.ensures.0) at c.dot_product.ensures.checked,
        rw (sym c.in-Ok.ensures.0) at c.dot_product.ensures.value
            ∙ ap (λ s. s % q) (products_of_values (value_of q) c.args.xs.now c.args.ys.now c.in-Ok.ensures.2.equal),
      ),
    )
