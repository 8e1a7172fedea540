use Rattle.std.proofs.Common.{◌≡◌, ◌/◌, ◌<◌, length, refl, arith, sym, ◌∙◌}
use Rattle.std.specs.Int.{trailing_zeros, w64}
use Rattle.modular_transform.proofs.PowersOfTwo.{power_by_zeros}
use Rattle.modular_plan_passes.specs.Plans.{numbers}
use Rattle.modular_plan_transforms.proofs.NaturalOrder.{in_natural_order, all_reordered}
use Rattle.modular_plan_transforms.proofs.split.ntt_planned.Goals as goal

pub returns : goal.returns
returns g c =
    let n = g.T.RingWord.number in
    let m = n c.args.m.now.modulus in
    let split = c.split.new.xs in
    let length_is : length split ≡ length c.args.xs.now = omega arith in
    let whole = power_by_zeros (length split) (rw length_is c.requires.count) (omega arith) in
    let one : length c.args.xs.now / 1 ≡ length c.args.xs.now = omega arith in
    record {
      below = all_reordered (λ x. n x < m) _ _ split _ whole refl (omega arith) c.reverse_places.ensures
          c.split.ensures.below;
      values = λ root z j twiddles below.
          in_natural_order n m root z (length c.args.xs.now) (length c.args.table.now)
          (trailing_zeros w64 (length split))
          (numbers n c.args.xs.now) split _ (sym length_is ∙ whole) twiddles.half c.requires.within length_is
          (omega arith) c.reverse_places.ensures (rw one at (c.split.ensures.remainders root z twiddles)) j below;
    }
