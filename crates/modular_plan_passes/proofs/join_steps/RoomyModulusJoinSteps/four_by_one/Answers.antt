use Rattle.std.proofs.Common.{◌≡◌, ◌+◌, ◌*◌, arith}
use Rattle.modular_plan_passes.proofs.Bounds.{multiple_is_none}
use Rattle.modular_plan_passes.proofs.JoinedPairs.{joined_by_one, joined_pair_scaled}
use Rattle.modular_plan_passes.proofs.join_steps.RoomyModulusJoinSteps.four_by_one.Goals as goal

pub gather-g-requires-clause-multiple : goal.gather-g-requires-clause-multiple
gather-g-requires-clause-multiple g c = multiple_is_none 4 _ c.fourfold-fourfold.ensures

pub scaled_pair-a-requires-clause-multiple : goal.scaled_pair-a-requires-clause-multiple
scaled_pair-a-requires-clause-multiple g c = multiple_is_none 8 _ c.eightfold.ensures

pub scaled_pair-b-requires-clause-multiple : goal.scaled_pair-b-requires-clause-multiple
scaled_pair-b-requires-clause-multiple g c = multiple_is_none 2 _ c.twice.ensures

pub returns-clause-four : goal.returns-clause-four
returns-clause-four g c =
    let n = g.T.RingWord.number in
    let s = n c.args.s.now.value in
    let bound = n c.fourfold-fourfold.result in
    let none = multiple_is_none 4 bound c.fourfold-fourfold.ensures in
    let apart : n c.plus-f.result + n c.args.y ≡ n c.args.x + bound =
    omega (arith, c.plus-f.ensures, c.minus.ensures.value) in
    λ v is_v. record {
      e = n c.plus-e.result * s;
      f = n c.plus-f.result * s;
      g = n c.gather-g.result.0 * s;
      h = n c.gather-g.result.1 * s;
      low = joined_pair_scaled 1 _ _ _ _ s (joined_by_one _ _ bound _ _ none c.plus-e.ensures apart);
      high = joined_pair_scaled v _ _ _ _ s (c.gather-g.ensures.pair v is_v);
      first = c.scaled_pair-a.ensures.pair;
      second = c.scaled_pair-b.ensures.pair;
    }
