use Rattle.modular_plan_passes.proofs.join_stages.+join_many.Given as goal

abbrev pub decreases-join_many : goal.decreases-join_many
decreases-join_many g l = l.blocks
