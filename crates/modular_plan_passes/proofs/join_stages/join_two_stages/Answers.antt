use Rattle.std.proofs.Common.{◌+◌, ◌≤◌, arith}
use Rattle.std.proofs.Math.Nat.{mul-le-mul_right}
use Rattle.modular_plan_passes.proofs.FourColumns.{block_below}
use Rattle.modular_plan_passes.proofs.Fours.{block_mapped, stage_of_fours_more, stage_of_fours_all}
use Rattle.modular_plan_passes.proofs.join_stages.join_two_stages.Goals as goal

pub quarters-requires : goal.quarters-requires
quarters-requires g c =
    let q = c.args.q in
    let room = mul-le-mul_right (q + q + (q + q)) (let l : c.four_quarters.p + 1 ≤ c.args.blocks = omega arith in l) in
    record {
      entries = c.four_quarters.invariant.entries;
      within = omega (arith, room);
      fits = omega (arith, g.met.M.JoinSteps.bound_fits c.args.m.now, g.met.M.JoinSteps.room c.args.m.now);
    }

pub four_quarters-preserved : goal.four_quarters-preserved
four_quarters-preserved g c = record {
  entries = block_below g.T.RingWord.number _ _ c.quarters.auto.xs c.four_quarters.invariant.entries c.quarters.ensures;
  done = λ root z twiddles.
      stage_of_fours_more _ c.args.q c.four_quarters.p _ _ _ (c.four_quarters.invariant.done root z twiddles)
      (block_mapped (λ a b c' d e f g' h is. is.done.each _ _ _ (c.minus_inverses-w.ensures.inverses root z twiddles))
      c.quarters.ensures);
}

pub returns : goal.returns
returns g c = record {
  entries = c.four_quarters.invariant.entries;
  done = λ root z twiddles. stage_of_fours_all (c.four_quarters.invariant.done root z twiddles) (omega arith);
}
