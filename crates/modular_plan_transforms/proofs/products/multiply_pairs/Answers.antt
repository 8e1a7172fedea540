use Rattle.std.proofs.Common.{◌+◌, ◌*◌, ◌/◌, length, arith, ◌∙◌}
use Rattle.modular_plan_passes.specs.Plans.{numbers, constant}
use Rattle.modular_plan_passes.proofs.Entries.{number_read}
use Rattle.modular_plan_transforms.proofs.SmallProducts.{next_block_is_product}
use Rattle.modular_plan_transforms.proofs.products.multiply_pairs.Goals as goal

pub each_block-preserved : goal.each_block-preserved
each_block-preserved g c =
    let n = g.T.RingWord.number in
    let before = c.each_block.invariant in
    let step = c.multiply_pair.ensures.done in
    let j = c.each_block.j in
    let read = number_read n c.each_block.xs (2 * j + 1) _ (omega arith) c.index-xs-j.is in
    record {
      below = c.multiply_pair.ensures.below;
      done = λ root z twiddles.
          next_block_is_product j (n c.times_constant-turned.result)
          (λ j. constant root z (c.args.b * (length c.args.xs.now / 2) + j)) _ (numbers n c.args.ys.now) _ _
          (rw read at (c.times_constant-turned.ensures.product root z twiddles)) before.kept step
          (before.done root z twiddles);
      kept = λ k l. step.kept k (omega arith) (omega arith) ∙ before.kept k (omega arith);
    }

pub returns-clause-products : goal.returns-clause-products
returns-clause-products g c root z twiddles =
    record { each = λ j i lj li. c.each_block.invariant.done root z twiddles j i (omega arith) li }
