use Rattle.std.proofs.Math.Nat.{div-one}
use Rattle.num_modular_c.proofs.PlannedProducts.{as_cyclic}
use Rattle.num_modular_c.proofs.plan_value.nm_plan_convolve.Goals as goal

pub returns-clause-did : goal.returns-clause-did
returns-clause-did c pair inverse =
    let is = c.product_code.ensures.did (rw div-one inverse) in
    (is.0, as_cyclic _ _ _ c.product_code.auto.xs is.1)

pub returns-clause-no_inverse : goal.returns-clause-no_inverse
returns-clause-no_inverse c pair none = c.product_code.ensures.no_inverse (λ inverse. none (rw div-one at inverse))
