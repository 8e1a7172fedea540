use Rattle.std.proofs.Common.{◌+◌, ◌≤◌, arith, le_refl}
use Rattle.std.proofs.Math.Nat.{mul-le-mul_right}
use Rattle.modular_plan_passes.proofs.FourColumns.{block_below, stage_with}
use Rattle.modular_plan_passes.proofs.Fours.{block_mapped, stage_of_fours_all}
use Rattle.modular_plan_passes.specs.Plans.{numbers}
use Rattle.modular_plan_passes.proofs.split_stages.split_two_stages.Goals as goal

pub invariant_of-step : goal.invariant_of-step
invariant_of-step g c = record {
  factors = c.factors_at-w.ensures.factors (g.M.SplitSteps.modulus c.args.m.now) c.requires.factors;
}

pub quarters-requires : goal.quarters-requires
quarters-requires g c =
    let q = c.args.q in
    let room = mul-le-mul_right (q + q + (q + q)) (let l : c.four_quarters.p + 1 ≤ c.args.blocks = omega arith in l) in
    record { entries = c.four_quarters.invariant.entries; within = omega (arith, room); fits = le_refl _ }

pub four_quarters-preserved : goal.four_quarters-preserved
four_quarters-preserved g c =
    let values = c.factors_at-w.ensures.values in
    let same = c.quarters.auto.xs in
    record {
      entries = block_below g.T.RingWord.number _ _ same c.four_quarters.invariant.entries c.quarters.ensures;
      done = stage_with (g.M.SplitSteps.modulus c.args.m.now) c.args.q c.four_quarters.p c.args.first
          (numbers g.F.PlanEntry.value c.args.table.now) values.0 values.1 values.2 c.four_quarters.invariant.done
          (block_mapped (λ a b c d e f g h is. is.done) c.quarters.ensures);
    }

pub returns : goal.returns
returns g c = record {
  entries = c.four_quarters.invariant.entries;
  done = stage_of_fours_all c.four_quarters.invariant.done (omega arith);
}
