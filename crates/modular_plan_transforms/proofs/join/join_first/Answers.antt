use Rattle.std.proofs.Common.{length, sym, ◌∙◌, arith}
use Rattle.modular_plan_passes.proofs.TwoLevels.{two_rooms}
use Rattle.modular_plan_transforms.proofs.JoinedPasses.{sizes_left}
use Rattle.modular_plan_transforms.proofs.LastJoins.{remainders_once}
use Rattle.modular_plan_passes.proofs.TwoJoins.{first_fours, remainders_of_joined_fours, remainders_reduced}
use Rattle.modular_plan_transforms.proofs.join.join_first.Goals as goal

pub join_fours-requires : goal.join_fours-requires
join_fours-requires g c =
    let one = c.if-last-eq1.true in
    let first = first_fours c.args.b c.args.last (length c.args.xs.now) (length c.args.table.now) (omega (arith, one))
    (omega (arith, c.if-fours-gt0.true)) c.requires.blocks.count c.requires.blocks.within in
    record {
      pass = record {
        entries = c.requires.entries;
        factors = c.requires.factors.each;
        whole = first.can.whole;
        within = two_rooms _ _ _ _ first.can.few first.room;
        some = omega arith;
      };
      minus_factor = c.requires.factors.minus_factor;
      is_minus = c.requires.factors.is_minus;
    }

pub returns-then-fours-gt0 : goal.returns-then-fours-gt0
returns-then-fours-gt0 g c =
    let one = c.if-last-eq1.true in
    let first = first_fours c.args.b c.args.last (length c.args.xs.now) (length c.args.table.now) (omega (arith, one))
    (omega (arith, c.if-fours-gt0.true)) c.requires.blocks.count c.requires.blocks.within in
    let left = sizes_left (length c.args.table.now) c.args.b first.can.next first.room in
    record {
      scale = 4;
      entries = c.join_fours.ensures.entries;
      blocks = left.given;
      times = left.scale ∙ sym first.count;
      joined = λ r z x twiddles are. remainders_of_joined_fours r z (omega (arith, one)) first twiddles are
          (c.join_fours.ensures.done r z twiddles);
    }

pub returns-else-last-eq1 : goal.returns-else-last-eq1
returns-else-last-eq1 g c = record {
  scale = 1;
  entries = c.lower_each.ensures.below;
  blocks = c.requires.blocks;
  times = omega arith;
  joined = λ r z x twiddles are.
      remainders_once r z _ _ _ x _ (remainders_reduced r z c.args.b _ c.args.last _ x _ _ c.requires.blocks.whole
      c.lower_each.ensures.congruent are);
}
