use Rattle.std.proofs.Common.{sym, ◌∙◌, arith}
use Rattle.modular_transform.proofs.PowersOfTwo.{power_of_two_tested}
use Rattle.modular_plan_transforms.proofs.PlanFields.{suits_by_turn}
use Rattle.modular_plan_transforms.proofs.tables.suits.Goals as goal

pub returns : goal.returns
returns g c =
    let power = (power_of_two_tested c.args.count).0 (sym c.is_power_of_two.ensures ∙ c.if-not-is_power_of_two.false) in
    let tested = suits_by_turn _ _ _ _ (omega (arith, c.args.m.now.some)) power c.power.ensures in (
      λ h. (c.is_below.ensures.below.0 c.if-not-is_below.false, tested.0 (c.is_minus_one.ensures.0 h)),
      λ suits. c.is_minus_one.ensures.1 (tested.1 suits.1),
    )
