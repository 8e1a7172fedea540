use Rattle.std.proofs.Common.{arith}
use Rattle.modular_transform.proofs.PowersOfTwo.{power_by_zeros}
use Rattle.modular_plan_transforms.proofs.plan.Plan.part.Goals as goal

pub returns-clause-inverse : goal.returns-clause-inverse
returns-clause-inverse g c = search (arith, power_by_zeros)
