use Rattle.modular_plan_passes.proofs.TwoJoins.{joined_four_along}
use Rattle.modular_plan_passes.proofs.join_steps.JoinLoweredFourStep.four.Goals as goal

pub returns : goal.returns
returns g c = record {
  below = c.four.ensures.below;
  done = record {
    each = λ w u v inverses.
        joined_four_along w u v c.lowered-a.ensures.congruent c.lowered-b.ensures.congruent
        c.lowered-c.ensures.congruent
        c.lowered-d.ensures.congruent (c.four.ensures.done.each w u v inverses);
  };
}
