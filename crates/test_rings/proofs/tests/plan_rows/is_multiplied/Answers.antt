use Rattle.std.proofs.Common.{refl, sym}
use Rattle.test_rings.proofs.tests.plan_rows.is_multiplied.Goals as goal

pub multiply-requires : goal.multiply-requires
multiply-requires g c =
    let blocks = c.if-not-convolves.ensures.0 refl in
    record {
      below = c.if-not-all_below.ensures refl;
      factors = c.requires;
      equal = sym c.if-xs-ys.false;
      some = blocks.some;
      few = blocks.few;
      whole = blocks.whole;
      within = blocks.within;
    }
