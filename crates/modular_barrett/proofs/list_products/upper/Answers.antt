use Rattle.std.proofs.Common.{◌%◌, ap, ◌∙◌}
use Rattle.modular_prim.proofs.DigitSteps.{remainder_is}
use Rattle.modular_barrett.proofs.ScaledSums.{carries_reduced}
use Rattle.modular_barrett.proofs.list_products.upper.Goals as goal

pub returns : goal.returns
returns g c =
    carries_reduced (g.T.RingWord.number c.args.divider.now.divisor) g.T.PathWord.base
    (g.T.RingWord.number c.args.word) (g.T.RingWord.number c.args.carries) (remainder_is c.div_rem_1by1-rest.ensures)
    (remainder_is c.div_rem_2by1.ensures
    ∙ ap (λ v. v % g.T.RingWord.number c.args.divider.now.divisor) c.merge.ensures.value)
