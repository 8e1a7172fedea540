use Rattle.std.proofs.Common.{◌<◌, arith}
use Rattle.std.proofs.lemmas.List.Elements.{All-set}
use Rattle.modular_plan_passes.proofs.Entries.{number_read}
use Rattle.modular_plan_passes.proofs.PairSteps.{pair_done_by_two_writes}
use Rattle.modular_plan_passes.proofs.passes.pair_at.Goals as goal

pub returns : goal.returns
returns g c =
    let n = g.T.RingWord.number in
    let R = g.S.PairStep.done c.args.step.now in
    let P = λ (x : g.row.T.Denot). n x < g.S.PairStep.bound c.args.step.now in
    let xs = c.args.xs.now in
    let a_is = number_read n xs c.args.low _ (omega (arith, c.requires.order, c.requires.within)) c.index-xs-low.is in
    let b_is = number_read n xs c.args.high _ c.requires.within c.index-xs-high.is in
    let step = c.pair-first in
    record {
      entries = All-set P _ c.args.low _ step.ensures.below
          (All-set P xs c.args.high _ step.ensures.other_below c.requires.entries);
      done = pair_done_by_two_writes n R xs _ _ _ _ c.requires.order c.requires.within
          (rw (a_is, b_is) at step.ensures.done);
    }
