use Rattle.std.proofs.Common.{◌*◌, ◌%◌, ap, ◌∙◌}
use Rattle.modular_prim.proofs.DigitSteps.{remainder_is}
use Rattle.modular_prim.proofs.power.scaled_product.Goals as goal

pub returns : goal.returns
returns g c =
    remainder_is c.div_2by1.ensures
    ∙ ap (λ v. v % g.T.RingWord.number c.args.divisor) (c.product.ensures.value
    ∙ ap (λ v. v * g.T.RingWord.number c.args.b) c.shift_right.ensures.value)
