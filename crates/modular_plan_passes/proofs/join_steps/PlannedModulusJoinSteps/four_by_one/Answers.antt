use Rattle.std.proofs.Common.{◌≡◌, ◌+◌, ◌*◌, arith}
use Rattle.modular_plan_passes.proofs.Bounds.{multiple_is_none, reduced_by_multiple}
use Rattle.modular_plan_passes.proofs.JoinedPairs.{joined_by_one, joined_pair_up_to, joined_pair_scaled}
use Rattle.modular_plan_passes.proofs.join_steps.PlannedModulusJoinSteps.four_by_one.Goals as goal

pub scaled_pair-b-requires-clause-multiple : goal.scaled_pair-b-requires-clause-multiple
scaled_pair-b-requires-clause-multiple g c = multiple_is_none 2 _ c.twice-twice.ensures

pub returns-clause-four : goal.returns-clause-four
returns-clause-four g c =
    let n = g.T.RingWord.number in
    let s = n c.args.s.now.value in
    let bound = n c.twice-twice.result in
    let none = multiple_is_none 2 bound c.twice-twice.ensures in
    let apart : n c.plus-2.result + n c.args.y ≡ n c.args.x + bound =
    omega (arith, c.plus-2.ensures, c.minus.ensures.value) in
    let low = joined_pair_up_to 1 _ _ _ _ _ _ (reduced_by_multiple _ _ bound none c.reduced-e.ensures.value)
    (reduced_by_multiple _ _ bound none c.reduced-f.ensures.value)
    (joined_by_one _ _ bound _ _ none c.plus.ensures apart) in
    λ v is_v. record {
      e = n c.reduced-e.result * s;
      f = n c.reduced-f.result * s;
      g = n c.pair-g.result.0 * s;
      h = n c.pair-g.result.1 * s;
      low = joined_pair_scaled 1 _ _ _ _ s low;
      high = joined_pair_scaled v _ _ _ _ s (c.pair-g.ensures.pair v is_v);
      first = c.scaled_pair-a.ensures.pair;
      second = c.scaled_pair-b.ensures.pair;
    }
