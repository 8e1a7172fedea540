use Rattle.std.proofs.Common.{◌*◌, ◌<◌, ◌∙◌, ap, sym, subst, arith}
use Rattle.std.proofs.lemmas.Nat.{mul-lt, pow_pos}
use Rattle.std.proofs.Math.Nat.{mul-lt-mul_of_pos_right}
use Rattle.modular_plan_passes.proofs.FactorProducts.{scaled_rest, divisor_fits}
use Rattle.modular_plan_passes.proofs.modulus.PlannedModulus.multiply.Goals as goal

pub shift_left-divisor-requires : goal.shift_left-divisor-requires
shift_left-divisor-requires g c =
    record { by = c.args.self.now.shift_fits; fits = divisor_fits c.args.self.now.reciprocal_is }

pub shift_left-scaled-requires : goal.shift_left-scaled-requires
shift_left-scaled-requires g c =
    let less = mul-lt-mul_of_pos_right c.requires (pow_pos c.args.self.now.shift) in
    record { by = c.args.self.now.shift_fits; fits = omega (arith, divisor_fits c.args.self.now.reciprocal_is, less) }

pub div_2by1-rest-requires-clause-high : goal.div_2by1-rest-requires-clause-high
div_2by1-rest-requires-clause-high g c =
    let less = mul-lt-mul_of_pos_right c.requires (pow_pos c.args.self.now.shift) in
    let high : g.T.RingWord.number c.shift_left-scaled.result < g.T.RingWord.number c.shift_left-divisor.result =
    omega (arith, less, c.shift_left-divisor.ensures, c.shift_left-scaled.ensures) in
    subst (λ v. v < g.T.RingWord.number c.shift_left-divisor.result * g.T.PathWord.base) (sym c.product.ensures.value)
    (mul-lt _ _ _ _ high c.product.ensures.other_fits)

pub returns : goal.returns
returns g c =
    let shift = c.args.self.now.shift in
    let dividend = c.product.ensures.value ∙ ap (λ v. v * g.T.RingWord.number c.args.y) c.shift_left-scaled.ensures in
    c.shift_right.ensures.value ∙ scaled_rest _ _ _ _ _ _ (pow_pos shift)
    (rw (dividend, c.shift_left-divisor.ensures) at c.div_2by1-rest.ensures)
