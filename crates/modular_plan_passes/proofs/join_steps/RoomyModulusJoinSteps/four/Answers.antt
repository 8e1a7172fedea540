use Rattle.std.proofs.Common.{arith}
use Rattle.modular_word.proofs.Congruence.{mod_trans}
use Rattle.modular_plan_passes.proofs.Bounds.{multiple_is_none, reduced_by_multiple}
use Rattle.modular_plan_passes.proofs.JoinedPairs.{joined_pair_reduced}
use Rattle.modular_plan_passes.proofs.join_steps.RoomyModulusJoinSteps.four.Goals as goal

pub gather-e-requires : goal.gather-e-requires
gather-e-requires g c = search (arith, multiple_is_none)

pub gather-g-requires : goal.gather-g-requires
gather-g-requires g c = search (arith, multiple_is_none)

pub gather-a-requires : goal.gather-a-requires
gather-a-requires g c = search (arith, multiple_is_none)

pub returns : goal.returns
returns g c = record {
  below = omega (arith, c.reduced-2.ensures.below, c.fourfold-fourfold.ensures);
  four = (let n = g.T.RingWord.number in
      let once = reduced_by_multiple _ _ _ (multiple_is_none 8 _ c.eightfold-eightfold.ensures)
      c.reduced.ensures.value in
      let again = reduced_by_multiple _ _ _ (multiple_is_none 4 _ c.fourfold-fourfold.ensures)
      c.reduced-2.ensures.value in
      λ w u v inverses. record {
        e = n c.gather-e.result.0;
        f = n c.gather-e.result.1;
        g = n c.gather-g.result.0;
        h = n c.gather-g.result.1;
        low = c.gather-e.ensures.pair u inverses.low;
        high = c.gather-g.ensures.pair v inverses.high;
        first = joined_pair_reduced w _ _ _ _ _ (mod_trans again once) (c.gather-a.ensures.pair w inverses.own);
        second = c.gather-b.ensures.pair w inverses.own;
      });
}
