use Rattle.num_modular_c.proofs.PlannedProducts.{as_negacyclic}
use Rattle.num_modular_c.proofs.plan_value.nm_plan_convolve_negacyclic.Goals as goal

pub returns-clause-did : goal.returns-clause-did
returns-clause-did c pair inverse =
    let is = c.product_code.ensures.did inverse in
    (is.0, as_negacyclic _ _ _ pair is.1)

pub returns-clause-no_inverse : goal.returns-clause-no_inverse
returns-clause-no_inverse c pair none = c.product_code.ensures.no_inverse none
