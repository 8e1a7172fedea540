use Rattle.std.proofs.Common.{◌≡◌, ◌-◌, ◌*◌, ◌/◌, ◌^◌, ◌<◌, length, take, arith, sym, ap, ◌∙◌}
use Rattle.std.proofs.lemmas.List.{length-take-le}
use Rattle.std.specs.Int.{trailing_zeros, w64}
use Rattle.modular_plan_passes.specs.Factors.{IsFactor}
use Rattle.modular_transform.proofs.PowersOfTwo.{power_by_zeros}
use Rattle.modular_plan_transforms.proofs.PlanFields.{twiddles_of, turn_of, field_residue_below_modulus, is_shorter}
use Rattle.modular_plan_transforms.proofs.PlanFields.{shorter_twiddles}
use Rattle.modular_plan_transforms.proofs.PlanFields.{all_taken, number_taken}
use Rattle.modular_plan_transforms.proofs.plan.Plan.shorter.Goals as goal

pub power-requires-clause-power_of_two : goal.power-requires-clause-power_of_two
power-requires-clause-power_of_two g c =
    let is = power_by_zeros c.args.n c.requires.power (omega arith) in
    (_, (is_shorter _ _ _ _ is c.requires.some c.requires.within c.args.self.now.half).quotient)

pub invariant_of-result : goal.invariant_of-result
invariant_of-result g c =
    let n = g.T.RingWord.number in
    let plan = c.args.self.now in
    let m = n plan.modulus.modulus in
    let y = trailing_zeros w64 c.args.n in
    let is = power_by_zeros c.args.n c.requires.power (omega arith) in
    let are = is_shorter _ _ _ y is c.requires.some c.requires.within plan.half in
    let made = shorter_twiddles plan.bits (n c.power.result) y (plan.bits - y) are.bits_is
    (rw are.quotient at c.power.ensures) (twiddles_of plan.half plan.half_turn plan.powers) in
    let half = c.args.n / 2 in
    let size = length-take-le half plan.table.now are.within in
    let whole : 2 * (2 ^ y / 2) ≡ 2 ^ y = ap (λ k. 2 * k) are.first ∙ are.half ∙ is in
    let same : 2 ^ y / 2 ≡ length (take half plan.table.now) = are.first ∙ sym size in
    record {
      odd = plan.odd;
      root_below = field_residue_below_modulus m (n c.power.result) _ (omega (arith, plan.modulus.some))
          c.power.ensures;
      half = ap (λ k. 2 * k) (sym same) ∙ whole;
      half_turn = rw (sym same) (turn_of whole made);
      factors = all_taken (λ f. IsFactor g.T.PathWord.base m (g.F.PlanEntry.value f) (g.F.PlanEntry.quotient f))
          half plan.table.now are.within plan.factors;
      powers = λ k l.
          let below : k < half = omega (arith, l, size) in
          number_taken g.F.PlanEntry.value half k plan.table.now below
          ∙ made.entry k (omega (arith, are.first, below));
    }

pub returns-clause-root : goal.returns-clause-root
returns-clause-root g c =
    let is = power_by_zeros c.args.n c.requires.power (omega arith) in
    let are = is_shorter _ _ _ _ is c.requires.some c.requires.within c.args.self.now.half in
    rw (are.quotient ∙ sym are.root) at c.power.ensures
