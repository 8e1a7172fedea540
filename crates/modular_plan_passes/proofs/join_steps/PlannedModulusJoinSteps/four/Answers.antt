use Rattle.modular_plan_passes.proofs.join_steps.PlannedModulusJoinSteps.four.Goals as goal

pub returns : goal.returns
returns g c = record {
  four = (let n = g.T.RingWord.number in
      let low = c.pair-e in
      let high = c.pair-g in
      λ w u v inverses. record {
        e = n low.result.0;
        f = n low.result.1;
        g = n high.result.0;
        h = n high.result.1;
        low = low.ensures.pair u inverses.low;
        high = high.ensures.pair v inverses.high;
        first = c.pair-a.ensures.pair w inverses.own;
        second = c.pair-b.ensures.pair w inverses.own;
      });
  below = record {
    first = c.pair-a.ensures.below;
    second = c.pair-b.ensures.below;
    third =
        c.pair-a.ensures.product_below;
    fourth = c.pair-b.ensures.product_below;
  };
}
