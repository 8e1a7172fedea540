use Rattle.std.proofs.Common.{ℕ, ◌<◌, ◌∙◌, IsTrue, nat_lt, arith, sym}
use Rattle.std.proofs.lemmas.Bool.Decides.{nat_tests}
use Rattle.modular_transform.proofs.PowersOfTwo.{power_of_two_tested, beyond_one}
use Rattle.modular_plan_transforms.proofs.PlanFields.{twice_half}
use Rattle.modular_plan_transforms.proofs.plan.Plan.has_shorter.Goals as goal

below_if_test_true : (b q : ℕ) → IsTrue (nat_lt b q) → b < q
below_if_test_true b q h = grind (arith, nat_tests)

test_true_if_below : (b q : ℕ) → b < q → IsTrue (nat_lt b q)
test_true_if_below b q h = grind (arith, nat_tests)

pub returns : goal.returns
returns g c =
    let n = c.args.n in
    let half = c.args.self.now.half in
    let power = (power_of_two_tested n).0 (sym c.is_power_of_two.ensures ∙ c.if-not-is_power_of_two.false) in
    let some = beyond_one n power c.if-n-eq1.false in
    let twice = twice_half power.0 n power.1 (omega (arith, some)) in (
      λ h. (power, omega (arith, some), omega (arith, below_if_test_true _ _ h, twice, half)),
      λ given. test_true_if_below _ _ (omega (arith, given.2, twice, half, some)),
    )
