use Rattle.std.proofs.Common.{◌≡◌, ◌*◌, ◌/◌, ◌%◌, length, refl, ◌∙◌, ap, arith}
use Rattle.modular_plan_transforms.proofs.Backward.{inverse_unscales}
use Rattle.num_modular_c.proofs.plan_value.nm_plan_join.Goals as goal

pub returns-clause-did : goal.returns-clause-did
returns-clause-did c fits inverse = (
  refl,
  record {
    below = rw c.new-m.ensures at c.join_scaled.ensures.below;
    joined = λ g z x twiddles are i l.
        let one : x i ≡ 1 * x i = omega arith in
        (rw c.new-m.ensures at c.join_scaled.ensures.joined) g z x twiddles are i l
        ∙ inverse_unscales c.args.plan.now.modulus (length c.args.xs.now / c.args.last) _ (x i)
        (rw c.new-m.ensures at c.in-Some.ensures.1) ∙ ap (λ v. v % c.args.plan.now.modulus) one;
  },
)
