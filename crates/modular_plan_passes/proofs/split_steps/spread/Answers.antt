use Rattle.std.proofs.Common.{◌∙◌, arith}
use Rattle.modular_plan_passes.proofs.PairSteps.{sum_and_difference_are_split}
use Rattle.modular_plan_passes.proofs.split_steps.spread.Goals as goal

pub returns : goal.returns
returns g c = record {
  below = omega (arith, c.times-product.ensures.below, c.plus.ensures);
  most = omega (arith, c.plus-2.ensures, c.minus.ensures.value, c.twice.ensures);
  pair = (let n = g.T.RingWord.number in
      sum_and_difference_are_split (n c.args.w.now.value) (n c.args.x) (n c.args.y) (n c.times-product.result)
      (n c.minus.result)
      (n c.plus.result) (n c.plus-2.result) c.times-product.ensures.congruent
      (c.minus.ensures.value ∙ c.twice.ensures) c.plus.ensures c.plus-2.ensures);
}
