use Rattle.std.proofs.Common.{◌*◌, length, arith, refl}
use Rattle.modular_plan_passes.specs.Plans.{numbers}
use Rattle.modular_plan_passes.proofs.FourColumns.{neighbours_given, stage_with}
use Rattle.modular_plan_passes.proofs.Entries.{all_below, never_beyond}
use Rattle.modular_plan_passes.proofs.Fours.{neighbours_done, neighbours_below, stage_of_fours_all}
use Rattle.modular_plan_passes.proofs.split_stages.split_fours.Goals as goal

pub returns-then-is_beyond : goal.returns-then-is_beyond
returns-then-is_beyond g c =
    never_beyond g.T.RingWord.number _ c.fours.xs c.args.xs.now (c.fours.p * 4) _ c.requires.entries (omega arith)
    (omega arith) c.index-xs-place.is (c.fours.invariant.done.kept (c.fours.p * 4) (omega arith))
    (c.if-is_beyond.ensures refl)

pub invariant_of-step : goal.invariant_of-step
invariant_of-step g c = record {
  factors = c.factors_at-w.ensures.factors (g.M.SplitSteps.modulus c.args.m.now) c.requires.factors;
}

pub neighbours-requires : goal.neighbours-requires
neighbours-requires g c =
    neighbours_given _ c.fours.p _ _ c.requires.entries c.fours.invariant.done.kept (omega arith) (omega arith)

pub fours-preserved : goal.fours-preserved
fours-preserved g c =
    let values = c.factors_at-w.ensures.values in
    record {
      below = neighbours_below c.fours.p c.fours.invariant.below c.neighbours.ensures;
      done = stage_with (g.M.SplitSteps.modulus c.args.m.now) 1 c.fours.p c.args.first
          (numbers g.F.PlanEntry.value c.args.table.now) values.0 values.1 values.2 c.fours.invariant.done
          (neighbours_done (c.fours.p * 4) c.neighbours.ensures);
    }

pub returns : goal.returns
returns g c = record {
  entries = all_below g.T.RingWord.number (g.M.SplitSteps.modulus c.args.m.now) (length c.args.xs.now) c.fours.xs
      (omega arith) (λ k l. c.fours.invariant.below k (omega arith));
  done = stage_of_fours_all c.fours.invariant.done (omega arith);
}
