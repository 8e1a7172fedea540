use Rattle.std.proofs.Common.{◌-◌, ◌/◌, ◌^◌, suc, length, arith}
use Rattle.modular_plan_passes.proofs.TwoLevels.{two_rooms}
use Rattle.modular_plan_passes.proofs.Joins.{level_lowest}
use Rattle.modular_plan_passes.proofs.TreeLevels.{can_join_two}
use Rattle.modular_plan_passes.proofs.TwoJoins.{level_joined_two, lowest_level}
use Rattle.modular_plan_transforms.proofs.JoinedPasses.{sizes_left, remainders_of_level}
use Rattle.modular_plan_transforms.proofs.join.join_passes.Goals as goal

pub passes-init : goal.passes-init
passes-init g c = record {
  above = c.requires.blocks.count.0;
  below = 0;
  tree = lowest_level c.requires.blocks.some c.requires.blocks.count c.requires.blocks.whole;
  some = c.requires.blocks.some;
  entries = c.requires.entries;
  level = λ r z x twiddles are. level_lowest r z c.args.b (length c.args.xs.now / c.args.last) c.args.last x _ are;
}

pub overflow_mul-b : goal.overflow_mul-b
overflow_mul-b g c =
    let can = can_join_two c.passes.invariant.tree (omega (arith, c.passes-test.true)) in
    omega (arith, two_rooms _ _ _ _ can.few c.requires.blocks.within)

pub join_known-requires : goal.join_known-requires
join_known-requires g c =
    let before = c.passes.invariant in
    let can = can_join_two before.tree (omega (arith, c.passes-test.true)) in
    record {
      pass = record {
        entries = before.entries;
        factors = c.requires.factors.each;
        whole = omega (arith, can.whole, c.passes.auto.xs);
        within = two_rooms _ _ _ _ can.few c.requires.blocks.within;
        some = before.some;
      };
      minus_factor = c.requires.factors.minus_factor;
      is_minus = c.requires.factors.is_minus;
    }

pub overflow_mul-size : goal.overflow_mul-size
overflow_mul-size g c =
    omega (arith, (can_join_two c.passes.invariant.tree (omega (arith, c.passes-test.true))).fits)

pub passes-preserved : goal.passes-preserved
passes-preserved g c =
    let before = c.passes.invariant in
    let can = can_join_two before.tree (omega (arith, c.passes-test.true)) in
    record {
      above = before.above - 2;
      below = suc (suc before.below);
      tree = can.next;
      some = omega (arith, before.some);
      entries = c.join_known.ensures.entries;
      level = λ r z x twiddles are. level_joined_two r z x can c.requires.blocks.within twiddles
          (before.level r z x twiddles are) (c.join_known.ensures.done r z twiddles);
    }

pub returns : goal.returns
returns g c =
    let before = c.passes.invariant in
    let left = sizes_left (length c.args.table.now) c.args.b before.tree c.requires.blocks.within in
    record {
      scale = 2 ^ before.below;
      entries = before.entries;
      blocks = left.given;
      times = left.scale;
      joined = λ r z x twiddles are. remainders_of_level r z c.args.b (length c.args.xs.now / c.passes.size)
          c.passes.size
          c.passes.blocks _ _ left.blocks_are (before.level r z x twiddles are);
    }
