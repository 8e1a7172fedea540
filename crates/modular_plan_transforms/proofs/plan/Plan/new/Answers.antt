use Rattle.std.proofs.Common.{arith}
use Rattle.modular_plan_transforms.proofs.PlanTables.{made_table}
use Rattle.modular_plan_transforms.proofs.plan.Plan.new.Goals as goal

pub returns : goal.returns
returns g c = grind (arith, made_table)
