use Rattle.std.proofs.Common.{◌*◌, ◌/◌, suc, length, refl, sym, ◌∙◌, ap, arith}
use Rattle.modular_transform.proofs.PowersOfTwo.{power_by_zeros}
use Rattle.modular_plan_passes.proofs.Entries.{all_wider}
use Rattle.modular_plan_passes.proofs.Levels.{table_room, level_first, level_next, level_end}
use Rattle.modular_plan_passes.proofs.TreeLevels.{has_stage, has_two_stages}
use Rattle.modular_plan_passes.proofs.TwoLevels.{two_rooms, level_after_two}
use Rattle.modular_plan_transforms.proofs.split.split_blocks.Goals as goal

pub stages-init : goal.stages-init
stages-init g c =
    let e = power_by_zeros (length c.args.xs.now / c.args.last) c.requires.blocks.count (omega arith) in
    record {
      above = 0;
      tree = record {
        blocks_are = refl;
        sized = sym c.requires.blocks.whole ∙ ap (λ v. v * c.args.last) e;
        counted = omega (arith, e);
        whole = c.requires.blocks.whole;
        some = c.requires.blocks.some;
      };
      entries = all_wider g.T.RingWord.number c.args.xs.now (g.met.M.SplitSteps.room c.args.m.now) c.requires.entries;
      first = λ one. c.requires.entries;
      level = λ r z twiddles. level_first r z c.args.b (length c.args.xs.now) _;
    }

pub overflow_mul-b : goal.overflow_mul-b
overflow_mul-b g c =
    let has = has_two_stages c.stages.invariant.tree (omega arith) in
    omega (arith, two_rooms _ _ _ _ has.few c.requires.blocks.within)

pub split_pass-requires : goal.split_pass-requires
split_pass-requires g c =
    let before = c.stages.invariant in
    let has = has_two_stages before.tree (omega arith) in
    record {
      ready = record {
        entries = before.entries;
        factors = c.requires.factors;
        whole = omega (arith, has.whole, c.stages.auto.xs);
        within = two_rooms _ _ _ _ has.few c.requires.blocks.within;
        some = has.some;
      };
      first_entries = before.first;
    }

pub overflow_mul-blocks : goal.overflow_mul-blocks
overflow_mul-blocks g c = omega (arith, (has_two_stages c.stages.invariant.tree (omega arith)).fits)

pub stages-preserved-then-left-eq0 : goal.stages-preserved-then-left-eq0
stages-preserved-then-left-eq0 g c =
    let before = c.stages.invariant in
    let has = has_two_stages before.tree (omega arith) in
    record {
      above = suc (suc before.above);
      tree = has.next;
      entries = c.split_pass.ensures.entries;
      first = λ one. absurd (omega arith);
      level = λ r z twiddles. level_after_two r z has c.requires.blocks.within twiddles (before.level r z twiddles)
          c.split_pass.ensures.done;
    }

pub overflow_mul-b-else-left-eq0 : goal.overflow_mul-b-else-left-eq0
overflow_mul-b-else-left-eq0 g c =
    let has = has_stage c.stages.invariant.tree (omega arith) in
    omega (arith, table_room _ _ _ _ has.few c.requires.blocks.within)

pub split_stage-requires : goal.split_stage-requires
split_stage-requires g c =
    let before = c.stages.invariant in
    let has = has_stage before.tree (omega arith) in
    record {
      entries = before.entries;
      factors = c.requires.factors;
      whole = omega (arith, has.whole, c.stages.auto.xs);
      within = table_room _ _ _ _ has.few c.requires.blocks.within;
      some = has.some;
    }

pub overflow_mul-blocks-else-left-eq0 : goal.overflow_mul-blocks-else-left-eq0
overflow_mul-blocks-else-left-eq0 g c = omega (arith, (has_stage c.stages.invariant.tree (omega arith)).fits)

pub stages-preserved : goal.stages-preserved
stages-preserved g c =
    let before = c.stages.invariant in
    let has = has_stage before.tree (omega arith) in
    record {
      above = suc before.above;
      tree = has.next;
      entries = c.split_stage.ensures.entries;
      first = λ one. absurd (omega arith);
      level = λ r z twiddles. level_next r z has c.requires.blocks.within twiddles (before.level r z twiddles)
          c.split_stage.ensures.done;
    }

pub returns-clause-level : goal.returns-clause-level
returns-clause-level g c r z twiddles =
    let before = c.stages.invariant in level_end r z before.tree (omega arith) (before.level r z twiddles)
