use Rattle.std.proofs.Common.{length, arith, ◌∙◌}
use Rattle.std.proofs.lemmas.Nat.{pow_pos}
use Rattle.modular_plan_transforms.proofs.Convolutions.{block_one_is_negacyclic}
use Rattle.modular_plan_transforms.proofs.PlanFields.{twiddles_of}
use Rattle.modular_plan_transforms.proofs.plan.Plan.convolve_negacyclic.Goals as goal

pub returns-clause-product : goal.returns-clause-product
returns-clause-product g c e below =
    let plan = c.args.self.now in
    c.convolve_block.ensures.product e below
    ∙ block_one_is_negacyclic _ e (g.T.RingWord.number plan.root) plan.bits (length plan.table.now) _ _ _
    (omega (arith, plan.modulus.some)) (omega (arith, plan.half, pow_pos plan.bits))
    (twiddles_of plan.half plan.half_turn plan.powers)
