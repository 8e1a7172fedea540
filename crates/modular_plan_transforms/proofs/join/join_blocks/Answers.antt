use Rattle.std.proofs.Common.{◌-◌, ◌/◌, suc, length, arith}
use Rattle.modular_plan_passes.proofs.Levels.{table_room}
use Rattle.modular_plan_passes.proofs.TwoLevels.{two_rooms}
use Rattle.modular_plan_passes.proofs.Joins.{level_lowest, level_joined, level_top}
use Rattle.modular_plan_passes.proofs.TreeLevels.{can_join, can_join_two}
use Rattle.modular_plan_passes.proofs.TwoJoins.{level_joined_two, lowest_level}
use Rattle.modular_plan_transforms.proofs.join.join_blocks.Goals as goal

pub stages-init : goal.stages-init
stages-init g c = record {
  above = c.requires.blocks.count.0;
  below = 0;
  tree = lowest_level c.requires.blocks.some c.requires.blocks.count c.requires.blocks.whole;
  some = c.requires.blocks.some;
  entries = c.requires.entries;
  level = λ r z x twiddles are. level_lowest r z c.args.b (length c.args.xs.now / c.args.last) c.args.last x _ are;
}

pub overflow_mul-b : goal.overflow_mul-b
overflow_mul-b g c =
    let can = can_join_two c.stages.invariant.tree c.if-blocks-gt2.true in
    omega (arith, two_rooms _ _ _ _ can.few c.requires.blocks.within)

pub join_known-requires : goal.join_known-requires
join_known-requires g c =
    let before = c.stages.invariant in
    let can = can_join_two before.tree c.if-blocks-gt2.true in
    record {
      pass = record {
        entries = before.entries;
        factors = c.requires.factors.each;
        whole = omega (arith, can.whole, c.stages.auto.xs);
        within = two_rooms _ _ _ _ can.few c.requires.blocks.within;
        some = before.some;
      };
      minus_factor = c.requires.factors.minus_factor;
      is_minus = c.requires.factors.is_minus;
    }

pub overflow_mul-size : goal.overflow_mul-size
overflow_mul-size g c = omega (arith, (can_join_two c.stages.invariant.tree c.if-blocks-gt2.true).fits)

pub stages-preserved-then-blocks-gt2 : goal.stages-preserved-then-blocks-gt2
stages-preserved-then-blocks-gt2 g c =
    let before = c.stages.invariant in
    let can = can_join_two before.tree c.if-blocks-gt2.true in
    record {
      above = before.above - 2;
      below = suc (suc before.below);
      tree = can.next;
      some = omega (arith, before.some);
      entries = c.join_known.ensures.entries;
      level = λ r z x twiddles are. level_joined_two r z x can c.requires.blocks.within twiddles
          (before.level r z x twiddles are) (c.join_known.ensures.done r z twiddles);
    }

pub overflow_mul-b-else-blocks-gt2 : goal.overflow_mul-b-else-blocks-gt2
overflow_mul-b-else-blocks-gt2 g c =
    let can = can_join c.stages.invariant.tree (omega (arith, c.stages-test.true)) in
    omega (arith, table_room _ _ _ _ can.few c.requires.blocks.within)

pub join_stage-requires : goal.join_stage-requires
join_stage-requires g c =
    let before = c.stages.invariant in
    let can = can_join before.tree (let less = c.stages-test.true in omega arith) in
    record {
      entries = before.entries;
      factors = c.requires.factors;
      whole = omega (arith, can.whole, c.stages.auto.xs);
      within = table_room _ _ _ _ can.few c.requires.blocks.within;
      some = before.some;
    }

pub overflow_mul-size-else-blocks-gt2 : goal.overflow_mul-size-else-blocks-gt2
overflow_mul-size-else-blocks-gt2 g c =
    omega (arith, (can_join c.stages.invariant.tree (omega (arith, c.stages-test.true))).fits)

pub stages-preserved : goal.stages-preserved
stages-preserved g c =
    let before = c.stages.invariant in
    let can = can_join before.tree (let less = c.stages-test.true in omega arith) in
    record {
      above = before.above - 1;
      below = suc before.below;
      tree = can.next;
      some = omega (arith, before.some);
      entries = c.join_stage.ensures.entries;
      level = λ r z x twiddles are. level_joined r z x can c.requires.blocks.within twiddles
          (before.level r z x twiddles are) (c.join_stage.ensures.done r z twiddles);
    }

pub returns-clause-joined : goal.returns-clause-joined
returns-clause-joined g c r z x twiddles are i l =
    let before = c.stages.invariant in
    level_top r z x before.tree (omega (arith, c.stages-test.false)) (omega (arith, l))
    (before.level r z x twiddles are) i l
