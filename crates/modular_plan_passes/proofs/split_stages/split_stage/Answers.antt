use Rattle.std.proofs.Common.{◌+◌, ◌∙◌, arith}
use Rattle.modular_plan_passes.proofs.Entries.{number_read}
use Rattle.modular_plan_passes.proofs.PairSteps.{stage_more}
use Rattle.modular_plan_passes.proofs.split_stages.split_stage.Goals as goal

pub each_block-preserved : goal.each_block-preserved
each_block-preserved g c =
    let p = c.each_block.p in
    let factor = c.factor-w.ensures.value ∙ number_read g.F.PlanEntry.value _ (c.args.first + p) _ (omega arith)
    c.index-table-first.is in
    record {
      entries = c.pairs.ensures.entries;
      done = stage_more _ c.args.half p _ _ _ c.each_block.invariant.done
          (rw factor at c.pairs.ensures.done);
    }
