use Rattle.std.proofs.Common.{arith}
use Rattle.modular_word.proofs.Congruence.{mod_refl}
use Rattle.modular_plan_passes.proofs.PairSteps.{split_of_congruent_values, reduced_by}
use Rattle.modular_plan_passes.proofs.split_steps.PlannedModulusSplitSteps.pair.Goals as goal

pub returns-clause-pair : goal.returns-clause-pair
returns-clause-pair g c = search (arith, split_of_congruent_values, reduced_by, mod_refl)
