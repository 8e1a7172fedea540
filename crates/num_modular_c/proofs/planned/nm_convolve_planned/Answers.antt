use Rattle.num_modular_c.proofs.PlannedProducts.{as_cyclic}
use Rattle.num_modular_c.proofs.planned.nm_convolve_planned.Goals as goal

pub returns-clause-did : goal.returns-clause-did
returns-clause-did c pair factors inverse =
    let is = c.product_code.ensures.did inverse in
    (is.0, as_cyclic _ _ _ c.product_code.auto.xs is.1)
