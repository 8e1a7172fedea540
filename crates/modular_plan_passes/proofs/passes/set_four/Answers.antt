use Rattle.std.proofs.Common.{arith}
use Rattle.modular_plan_passes.proofs.Fours.{written_four_is_done}
use Rattle.modular_plan_passes.proofs.passes.set_four.Goals as goal

pub returns : goal.returns
returns g c = search (arith, written_four_is_done)
