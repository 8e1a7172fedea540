use Rattle.num_modular_c.proofs.PlannedProducts.{as_negacyclic}
use Rattle.num_modular_c.proofs.planned.nm_convolve_negacyclic.Goals as goal

pub returns-clause-did : goal.returns-clause-did
returns-clause-did c pair factors inverse =
    let is = c.product_code.ensures.did inverse in
    (is.0, as_negacyclic _ _ _ pair is.1)
