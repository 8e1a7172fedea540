use Rattle.std.proofs.Common.{◌*◌, length, ◌∙◌, arith, refl}
use Rattle.modular_plan_passes.proofs.FourColumns.{neighbours_given}
use Rattle.modular_plan_passes.proofs.Entries.{all_below, never_beyond}
use Rattle.modular_plan_passes.proofs.Fours.{block_mapped, neighbours_done, neighbours_below, stage_of_fours_none}
use Rattle.modular_plan_passes.proofs.Fours.{stage_of_fours_more, stage_of_fours_all}
use Rattle.modular_plan_passes.proofs.join_stages.join_each.Goals as goal

pub fours-init : goal.fours-init
fours-init g c = search (arith, stage_of_fours_none)

pub returns-then-is_beyond : goal.returns-then-is_beyond
returns-then-is_beyond g c =
    never_beyond g.T.RingWord.number _ c.fours.xs c.args.xs.now (c.fours.p * 4) _ c.requires.pass.entries (omega arith)
    (omega arith) c.index-xs-place.is (c.fours.invariant.kept (c.fours.p * 4) (omega arith))
    (omega (arith, c.if-is_beyond.ensures refl, g.met.M.JoinSteps.room c.args.m.now))

pub neighbours-requires : goal.neighbours-requires
neighbours-requires g c =
    neighbours_given _ c.fours.p _ _ c.requires.pass.entries c.fours.invariant.kept (omega arith) (omega arith)

pub fours-preserved : goal.fours-preserved
fours-preserved g c =
    let step = c.neighbours.ensures in
    record {
      kept = λ k l. step.kept k (omega arith) (omega arith) (omega arith) (omega arith)
          ∙ c.fours.invariant.kept k (omega arith);
      below = neighbours_below c.fours.p c.fours.invariant.below step;
      done = λ root z twiddles.
          stage_of_fours_more _ 1 c.fours.p _ _ _ (c.fours.invariant.done root z twiddles)
          (block_mapped (λ a b c' d e f g' h is. is.each _ _ _ (c.minus_inverses-w.ensures.inverses root z twiddles))
          (neighbours_done (c.fours.p * 4) step));
    }

pub returns : goal.returns
returns g c = record {
  entries = all_below g.T.RingWord.number (g.M.JoinSteps.bound c.args.m.now) (length c.args.xs.now) c.fours.xs
      (omega arith) (λ k l. c.fours.invariant.below k (omega arith));
  done = λ root z twiddles. stage_of_fours_all (c.fours.invariant.done root z twiddles) (omega arith);
}
