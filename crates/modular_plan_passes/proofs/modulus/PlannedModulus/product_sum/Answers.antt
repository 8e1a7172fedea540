use Rattle.std.proofs.Common.{◌≡◌, ◌+◌, ◌-◌, ◌*◌, ◌%◌, ◌^◌, ◌<◌, ◌∙◌, ap, sym, arith}
use Rattle.std.proofs.lemmas.Nat.{pow_pos}
use Rattle.std.proofs.Math.Nat.{mod-lt, mul-lt-mul_of_pos_right}
use Rattle.modular_word.proofs.Congruence.{mod_of_multiple_left}
use Rattle.modular_plan_passes.proofs.FactorProducts.{divisor_fits}
use Rattle.modular_plan_passes.proofs.SumsOfProducts.{halved_shift, summand_fits, scaled_sum_fits, rest_of_sum}
use Rattle.modular_plan_passes.proofs.modulus.PlannedModulus.product_sum.Goals as goal
use Rattle.modular_plan_passes.proofs.modulus.PlannedModulus.product_sum.Goals.{After-product-2, After-shift_right}

pub shift_left-requires : goal.shift_left-requires
shift_left-requires g c =
    let self = c.args.self.now in
    let fits = summand_fits _ _ self.some self.room self.reciprocal_is (omega (arith, c.requires)) in
    record { by = omega (arith, self.shift_fits); fits = fits }

pub shift_left-requires-2 : goal.shift_left-requires-2
shift_left-requires-2 g c =
    let self = c.args.self.now in
    let fits = summand_fits _ _ self.some self.room self.reciprocal_is (omega (arith, c.requires)) in
    record { by = omega (arith, self.shift_fits); fits = fits }

-- the products of the summands
product_sum_fits_division : (g : _) (c : After-product-2 g)
    → g.T.PathWord.double_number c.product.result + g.T.PathWord.double_number c.product-2.result
    < g.T.RingWord.number c.shift_left-divisor.result * g.T.PathWord.base
product_sum_fits_division g c =
    let self = c.args.self.now in
    let n = g.T.RingWord.number in
    let halved = halved_shift _ _ self.some self.room self.reciprocal_is in
    let less = scaled_sum_fits _ _ _ _ _ _ _ _ halved.twice (pow_pos (self.shift - 1)) c.requires
    c.product.ensures.other_fits c.product-2.ensures.other_fits in
    let first = ap (λ v. v * n c.args.v) c.shift_left.ensures in
    let second = ap (λ v. v * n c.args.y) c.shift_left-2.ensures in
    let divisor = ap (λ v. v * g.T.PathWord.base) c.shift_left-divisor.ensures in
    omega (arith, less, first, second, divisor, c.product.ensures.value, c.product-2.ensures.value)

pub double_plus-sum-requires : goal.double_plus-sum-requires
double_plus-sum-requires g c =
    let less = product_sum_fits_division g (goal.at.double_plus-sum-requires g c).After-product-2 in
    let some : 0 < g.T.PathWord.base = omega (arith, c.args.self.now.some, c.args.self.now.room) in
    let more = mul-lt-mul_of_pos_right (divisor_fits c.args.self.now.reciprocal_is) some in
    omega (arith, less, more, ap (λ v. v * g.T.PathWord.base) c.shift_left-divisor.ensures)

pub div_2by1-rest-requires-clause-high : goal.div_2by1-rest-requires-clause-high
div_2by1-rest-requires-clause-high g c =
    let less = product_sum_fits_division g (goal.at.div_2by1-rest-requires-clause-high g c).After-product-2 in
    omega (arith, less, c.double_plus-sum.ensures)

-- the rest modulo 2m
rest_modulo_twice_modulus : (g : _) (c : After-shift_right g)
    → g.T.RingWord.number c.shift_right.result
    ≡ (g.T.RingWord.number c.args.x * g.T.RingWord.number c.args.v
    + g.T.RingWord.number c.args.u * g.T.RingWord.number c.args.y)
    % (2 * g.T.RingWord.number c.args.self.now.modulus)
rest_modulo_twice_modulus g c =
    let self = c.args.self.now in
    let n = g.T.RingWord.number in
    let p = 2 ^ (self.shift - 1) in
    let halved = halved_shift _ _ self.some self.room self.reciprocal_is in
    let first = ap (λ v. v * n c.args.v) c.shift_left.ensures in
    let second = ap (λ v. v * n c.args.y) c.shift_left-2.ensures in
    let total : g.T.PathWord.double_number c.double_plus-sum.result
    ≡ n c.args.x * p * n c.args.v + n c.args.u * p * n c.args.y =
    omega (arith, first, second, c.product.ensures.value, c.product-2.ensures.value, c.double_plus-sum.ensures) in
    c.shift_right.ensures.value
    ∙ rest_of_sum _ _ _ _ _ _ _ _ _ _ (halved.twice ∙ sym c.shift_left-divisor.ensures) (pow_pos (self.shift - 1)) total
    c.div_2by1-rest.ensures

pub reduced_once-requires : goal.reduced_once-requires
reduced_once-requires g c =
    let n = g.T.RingWord.number in
    let less = mod-lt (n c.args.x * n c.args.v + n c.args.u * n c.args.y)
    (let k : 0 < 2 * (n c.args.self.now.modulus) = omega (arith, c.args.self.now.some) in k) in
    omega (arith, rest_modulo_twice_modulus g (goal.at.reduced_once-requires g c).After-shift_right, less)

pub returns-clause-value : goal.returns-clause-value
returns-clause-value g c =
    let n = g.T.RingWord.number in
    let m = n c.args.self.now.modulus in
    c.reduced_once.ensures.value
    ∙ ap (λ v. v % m) (rest_modulo_twice_modulus g (goal.at.returns-clause-value g c).After-shift_right)
    ∙ mod_of_multiple_left m 2 (n c.args.x * n c.args.v + n c.args.u * n c.args.y)
