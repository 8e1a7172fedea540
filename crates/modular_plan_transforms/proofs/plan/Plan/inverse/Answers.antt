use Rattle.std.proofs.Common.{◌≡◌, ℕ, ◌*◌, ◌/◌, ◌^◌, ◌<◌, length, refl, arith, ◌∙◌}
use Rattle.std.proofs.Math.Nat.{div-one}
use Rattle.modular_word.proofs.Congruence.{mod_of_eq, mod_trans, residue_of}
use Rattle.modular_transform.proofs.InverseTransform.{transform_congruent}
use Rattle.modular_transform.proofs.TransformBack.{transform_preimage, transform_of_preimage}
use Rattle.modular_transform.specs.Transforms.{Suits}
use Rattle.modular_plan_passes.specs.Plans.{numbers}
use Rattle.modular_plan_transforms.proofs.NaturalOrder.{all_reordered}
use Rattle.modular_plan_transforms.proofs.Backward.{remainders_of_transform, inverse_unscales}
use Rattle.modular_plan_transforms.proofs.PlanFields.{twiddles_of}
use Rattle.modular_plan_transforms.proofs.plan.Plan.inverse.Goals as goal

pub join_scaled-requires : goal.join_scaled-requires
join_scaled-requires g c =
    let n = g.T.RingWord.number in
    let plan = c.args.self.now in
    let m = n plan.modulus.modulus in
    let mid = c.reverse_places.new.entries in
    let whole : length mid ≡ 2 ^ plan.bits = omega (arith, c.requires.whole) in
    let all = div-one (length mid) in
    record {
      entries = all_reordered (λ x. n x < 4 * m) _ _ c.args.xs.now mid c.requires.whole refl (omega arith)
          c.reverse_places.ensures c.requires.entries;
      factors = plan.factors;
      blocks = record {
        some = omega arith;
        count = (plan.bits, all ∙ whole);
        whole = omega (arith, all);
        within = omega (arith, all, whole, plan.half);
      };
      factor = c.part-part.ensures.factor;
    }

pub returns-clause-undone : goal.returns-clause-undone
returns-clause-undone g c x are i below =
    let n = g.T.RingWord.number in
    let plan = c.args.self.now in
    let m = n plan.modulus.modulus in
    let mid = c.reverse_places.new.entries in
    let same : length mid ≡ length c.args.xs.now = omega arith in
    let remainders = remainders_of_transform n m (n plan.root) _ plan.bits x c.args.xs.now mid c.requires.whole
    refl same
    c.reverse_places.ensures are in
    let all : length mid / 1 ≡ length c.args.xs.now = div-one (length mid) ∙ same in
    c.join_scaled.ensures.joined (n plan.root) plan.bits x (twiddles_of plan.half plan.half_turn plan.powers)
    (rw all remainders) i (omega (arith, same, below))
    ∙ inverse_unscales m (length mid / 1) _ (x i) (rw all c.part-part.ensures.inverse)

pub returns-clause-values : goal.returns-clause-values
returns-clause-values g c j below =
    let n = g.T.RingWord.number in
    let plan = c.args.self.now in
    let m = n plan.modulus.modulus in
    let size = length c.args.xs.now in
    let part = n c.part-part.result.value in
    let y = numbers n c.args.xs.now in
    let suits : Suits m (n plan.root) size = rw c.requires.whole
    (twiddles_of plan.half plan.half_turn plan.powers).suits in
    let more : 1 < size = omega (arith, plan.half, c.requires.whole, below) in
    let x = transform_preimage m (n plan.root) size part y in
    let back = λ (j : ℕ) (l : j < size).
    transform_of_preimage m (n plan.root) size part j y plan.root_below more suits c.part-part.ensures.inverse l in
    transform_congruent (n plan.root) size j (numbers n c.join_scaled.new.xs) x
    (λ i l. mod_trans (mod_of_eq (returns-clause-undone g c x back i l)) (residue_of (x i))) ∙ back j below
