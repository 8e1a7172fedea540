use Rattle.std.proofs.Common.{arith}
use Rattle.modular_plan_passes.proofs.PairSteps.{pairs_mapped, stage_more, stage_all}
use Rattle.modular_plan_passes.proofs.join_stages.join_stage.Goals as goal

pub each_block-preserved : goal.each_block-preserved
each_block-preserved g c = record {
  entries = c.pairs.ensures.entries;
  done =
      λ root z twiddles. stage_more _ c.args.half c.each_block.p _ _ _ (c.each_block.invariant.done root z twiddles)
      (pairs_mapped (λ a b a' b' is. is _ (c.minus_inverse-v.ensures.inverse root z twiddles)) c.pairs.ensures.done);
}

pub returns : goal.returns
returns g c = record {
  entries = c.each_block.invariant.entries;
  done = λ root z twiddles. stage_all (c.each_block.invariant.done root z twiddles) (omega arith);
}
