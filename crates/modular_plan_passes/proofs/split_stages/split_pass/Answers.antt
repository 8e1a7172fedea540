use Rattle.std.proofs.Common.{sym, ◌∙◌, arith}
use Rattle.modular_plan_passes.specs.Plans.{numbers}
use Rattle.modular_plan_passes.specs.Steps.{IsFourSplit}
use Rattle.modular_plan_passes.proofs.FourColumns.{block_below}
use Rattle.modular_plan_passes.proofs.Entries.{number_read}
use Rattle.modular_plan_passes.proofs.Fours.{block_mapped, first_stage}
use Rattle.modular_plan_passes.proofs.split_stages.split_pass.Goals as goal

pub returns-then-is_one : goal.returns-then-is_one
returns-then-is_one g c =
    let value = g.F.PlanEntry.value in
    let zero = number_read value c.args.table.now 0 _ (omega arith) c.index-table-0.is in
    let one = number_read value c.args.table.now 1 _ (omega arith) c.index-table-1.is in
    let begins = sym zero ∙ sym c.factor.ensures.value ∙ c.is_one.ensures.0 c.if-is_one.true in
    record {
      entries = block_below g.T.RingWord.number _ _ c.quarters.auto.xs c.requires.ready.entries c.quarters.ensures;
      done = first_stage (IsFourSplit _) _ _ _ _ (numbers value c.args.table.now) _ _ c.if-first-eq0.true
          c.if-blocks-eq1.true begins (c.factor-v.ensures.value ∙ one)
          (block_mapped (λ a b c d e f g h is. is.done) c.quarters.ensures);
    }
