use Rattle.std.proofs.Common.{◌≡◌, ◌*◌, ◌/◌, length, arith}
use Rattle.modular_word.specs.Congruence.{Congruent}
use Rattle.modular_plan_passes.specs.Plans.{numbers}
use Rattle.modular_plan_transforms.proofs.Convolutions.{blocks_of, joined_product}
use Rattle.modular_plan_transforms.proofs.convolution.convolve_scaled.Goals as goal

pub split_first-requires : goal.split_first-requires
split_first-requires g c = search (arith, blocks_of)

pub split-requires : goal.split-requires
split-requires g c =
    let same : length c.args.ys.now ≡ length c.args.xs.now = omega arith in
    record {
      entries = c.requires.entries_ys;
      factors = c.requires.factors;
      blocks = rw same (blocks_of c.requires.blocks);
    }

pub returns : goal.returns
returns g c =
    let n = g.T.RingWord.number in
    let m = n c.args.m.now.modulus in
    let xs = c.args.xs.now in
    let last = c.args.last in
    let part = n c.args.part.now.value in
    let blocks = c.requires.blocks in
    let inverse : Congruent m (length xs / last * part) 1 = record { same = c.requires.inverse.one } in
    let same_ys : length c.args.ys.now ≡ length xs = omega arith in
    let same : length c.split_first.new.xs ≡ length xs = omega arith in
    record {
      below = (c.join_products.ensures.below, c.split.ensures.below);
      product = λ root z e twiddles below.
          let joined = c.join_products.ensures.joined root z twiddles in
          joined_product root z c.args.b last (length c.args.table.now) (length xs / last) (length xs) part _
          (numbers n xs) (numbers n c.args.ys.now)
          (numbers n c.split_first.new.xs) (numbers n c.split.new.xs) joined.0
          (numbers n c.join_products.new.xs) blocks.count blocks.whole blocks.within twiddles inverse
          (c.split_first.ensures.remainders root z twiddles)
          (rw same_ys at (c.split.ensures.remainders root z twiddles)) (rw same at joined.1)
          (λ r are i l. rw same at (joined.2 r (rw same are) i (omega arith)))
          e below;
      remainders = λ root z twiddles. rw same_ys at (c.split.ensures.remainders root z twiddles);
    }
