-- The low word of t and of the multiple add up to 0 or to the base.
use Rattle.std.proofs.Common.{◌+◌, ◌*◌, ◌%◌, ap, ◌∙◌, arith}
use Rattle.modular_word.proofs.ReductionSteps.{sum_is_cleared}
use Rattle.modular_word.proofs.paths.clearing.Goals as goal

pub returns-clause-low : goal.returns-clause-low
returns-clause-low g c =
    ap (λ v. (v + g.T.RingWord.number c.wrapping_mul.result * g.T.RingWord.number c.args.m) % g.T.PathWord.base)
    c.split-low.ensures.value
    ∙ sum_is_cleared _ _ _ _ _ _ (omega (arith, c.wrapping_mul.ensures.fits)) c.requires.product
    c.wrapping_mul.ensures.value
