use Rattle.std.proofs.Common.{◌≡◌, ℕ, ◌+◌, ◌∙◌, ◌^◌, ◌<◌, arith, sym}
use Rattle.modular_folds.proofs.FoldSteps.{mask_plus_one_is_power, power_fits, bit_inside, some_bits}
use Rattle.modular_folds.proofs.FoldBounds.{low_only, small_square}
use Rattle.modular_folds.proofs.FoldCounts.{folds-none}
use Rattle.modular_folds.proofs.WordTests.{at_least_by_false_test}
use Rattle.modular_folds.proofs.folds.fold_all.Goals as goal

-- a word above the mask has more than p bits
bit_below_width : {w p mask v : ℕ} → mask + 1 ≡ 2 ^ p → mask < v → v < 2 ^ w → p < w
bit_below_width {w} {p} {mask} {v} is above fits = bit_inside w p v (omega (arith, is, above)) fits

pub plus-mask-requires : goal.plus-mask-requires
plus-mask-requires g c = omega (arith, power_fits c.requires)

pub returns-then-not-is_below : goal.returns-then-not-is_below
returns-then-not-is_below g c = search (arith, mask_plus_one_is_power, at_least_by_false_test, folds-none)

pub fold_on-requires : goal.fold_on-requires
fold_on-requires g c = search (arith, mask_plus_one_is_power)

pub fold_two-requires : goal.fold_two-requires
fold_two-requires g c = search (arith, mask_plus_one_is_power, some_bits, bit_below_width, at_least_by_false_test)

pub fold_three-requires : goal.fold_three-requires
fold_three-requires g c =
    let mask = mask_plus_one_is_power _ _ c.one.ensures c.minus.ensures c.plus-mask.ensures c.requires.whole in
    let less = low_only _ _ (sym c.shift_right-2.ensures.value
    ∙ c.is_zero_word.ensures.zero.0 c.if-is_zero_word.true) in
    record {
      inside = bit_below_width mask (c.is_below.ensures.below.0 c.if-not-is_below.false) c.is_below.ensures.other_fits;
      mask = mask;
      small = omega (arith, small_square _ _ less);
      product = omega (
        arith,
        mask,
        at_least_by_false_test c.is_below-2.ensures.below c.if-is_below.false,
        c.shift_right.ensures.value,
      );
    }

pub fold_on-requires-2 : goal.fold_on-requires-2
fold_on-requires-2 g c = search (arith, mask_plus_one_is_power)

pub returns-then-eq : goal.returns-then-eq
returns-then-eq g c =
    let n = g.V.RingWord.number in
    let one = (g.met.V.RingWord.equal c.args.c c.one-2.result).0 (sym c.eq.ensures ∙ c.if-eq.true) ∙ c.one-2.ensures in
    let is : n c.plus-mask.result ≡ n c.args.m = omega (arith, one, c.requires.whole) in
    record {
      below = c.fold_two.ensures.below;
      same = rw is at c.fold_two.ensures.same;
      count = rw one c.fold_two.ensures.count;
    }
