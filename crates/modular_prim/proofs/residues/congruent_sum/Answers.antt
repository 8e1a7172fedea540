use Rattle.std.proofs.Common.{◌≡◌, ◌+◌, ◌*◌, ◌%◌, ◌^◌, ◌<◌, ap, ◌∙◌, arith}
use Rattle.modular_prim.proofs.Scaled.{IsNormalized, scaled_to_top, sum_of_rest, sum_less_multiple}
use Rattle.modular_prim.proofs.residues.congruent_sum.Goals as goal
use Rattle.modular_prim.proofs.residues.congruent_sum.Goals.{After-leading_zeros, After-reduced_once-rest}

-- the modulus is scaled to the top
shifted_modulus_is_normalized : (g : _) (c : After-leading_zeros g)
    → IsNormalized g.T.RingWord.width g.T.PathWord.base (g.T.RingWord.number c.args.m) c.leading_zeros.result
shifted_modulus_is_normalized g c =
    scaled_to_top _ _ _ _ g.met.T.PathWord.base_is
    (let h : 0 < g.T.RingWord.number c.args.m = omega (arith, c.requires) in
    h) c.leading_zeros.ensures.fits c.leading_zeros.ensures.value

-- the remainder, by the multiple as a product
rest_modulo_shifted_modulus : (g : _) (c : After-reduced_once-rest g)
    → g.T.RingWord.number c.reduced_once-rest.result
    ≡ g.T.RingWord.number c.args.b % (g.T.RingWord.number c.args.m * 2 ^ c.leading_zeros.result)
rest_modulo_shifted_modulus g c = c.reduced_once-rest.ensures.value ∙ ap (λ v. g.T.RingWord.number c.args.b % v)
    c.shift_left-multiple.ensures

pub shift_left-multiple-requires-clause-fits : goal.shift_left-multiple-requires-clause-fits
shift_left-multiple-requires-clause-fits g c = grind (arith, shifted_modulus_is_normalized)

pub reduced_once-rest-requires : goal.reduced_once-rest-requires
reduced_once-rest-requires g c = grind (arith, shifted_modulus_is_normalized)

pub returns-then-over : goal.returns-then-over
returns-then-over g c =
    let n = g.T.RingWord.number in
    let p = 2 ^ c.leading_zeros.result in
    let whole : n c.minus.result + n c.args.m * p ≡ n c.args.a + n c.reduced_once-rest.result =
    omega (arith, c.minus.ensures.value, c.minus-gap.ensures.value, c.shift_left-multiple.ensures) in
    sum_less_multiple _ p _ _ _ _ (rest_modulo_shifted_modulus g
    (goal.at.returns-then-over g c).After-reduced_once-rest) whole

pub returns-else-over : goal.returns-else-over
returns-else-over g c = grind (arith, sum_of_rest, rest_modulo_shifted_modulus)
