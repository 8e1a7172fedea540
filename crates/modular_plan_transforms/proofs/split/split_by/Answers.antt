use Rattle.std.proofs.Common.{◌≡◌, length, arith}
use Rattle.modular_plan_passes.proofs.Entries.{bounded_at}
use Rattle.modular_plan_passes.proofs.Levels.{remainders_of}
use Rattle.modular_plan_passes.proofs.TwoLevels.{whole_fours, remainders_of_split_fours}
use Rattle.modular_plan_transforms.proofs.split.split_by.Goals as goal

pub split_blocks-requires : goal.split_blocks-requires
split_blocks-requires g c =
    let fours = whole_fours _ _ _ _ c.if-last-eq1.true c.if-xs-ge4.true c.requires.blocks.count
    c.requires.blocks.within in
    record {
      entries = c.requires.entries;
      factors = c.requires.factors;
      blocks = record { some = omega arith; count = fours.power; whole = fours.whole; within = fours.room };
    }

pub split_fours-requires : goal.split_fours-requires
split_fours-requires g c =
    let fours = whole_fours _ _ _ _ c.if-last-eq1.true c.if-xs-ge4.true c.requires.blocks.count
    c.requires.blocks.within in
    record {
      entries = c.split_blocks.ensures.entries;
      factors = c.requires.factors;
      whole = omega (arith, fours.whole);
      within = fours.places;
      some = omega arith;
    }

pub returns-then-xs-ge4-clause-remainders : goal.returns-then-xs-ge4-clause-remainders
returns-then-xs-ge4-clause-remainders g c r z twiddles =
    let length_is : length c.split_fours.new.xs ≡ length c.args.xs.now = omega arith in
    let fours = whole_fours _ _ _ _ c.if-last-eq1.true c.if-xs-ge4.true c.requires.blocks.count
    c.requires.blocks.within in
    remainders_of_split_fours r z _ _ _ _ _ _ _ _ c.if-last-eq1.true fours twiddles
    (c.split_blocks.ensures.level r z twiddles) c.split_fours.ensures.done
    (λ i l. bounded_at _ _ _ i c.split_fours.ensures.entries (omega arith))

pub returns-else-last-eq1-clause-remainders : goal.returns-else-last-eq1-clause-remainders
returns-else-last-eq1-clause-remainders g c r z twiddles =
    remainders_of r z _ _ _ _ _ _ _ c.requires.blocks.whole (c.split_blocks-else-last-eq1.ensures.level r z twiddles)
    (λ i l. c.reduce_each.ensures.residues i (omega arith))
