-- The sum fits a double word, and its high word is less than twice m.
use Rattle.std.proofs.Common.{◌≡◌, ◌+◌, ◌/◌, ◌%◌, sym, ap, ◌∙◌, arith}
use Rattle.modular_word.proofs.ReductionSteps.{high_sum_below}
use Rattle.modular_monty.proofs.HighWords.{high_is}
use Rattle.modular_monty.proofs.known.high_sum_by_sign.Goals as goal
use Rattle.modular_monty.proofs.known.high_sum_by_sign.Goals.{After-split-high}

-- the high word
high_sum_is_high_word : (g : _) (c : After-split-high g)
    → (g.T.PathWord.double_number c.args.t + g.T.PathWord.double_number c.args.multiple) / g.T.PathWord.base
    ≡ g.T.RingWord.number c.split-high.result.1
high_sum_is_high_word g c =
    high_is _ _ _ _ (sym c.double_plus.ensures ∙ c.split-high.ensures.value) c.split-high.ensures.low_fits

pub reduced_by_sign-requires-clause-below : goal.reduced_by_sign-requires-clause-below
reduced_by_sign-requires-clause-below g c =
    let at = (goal.at.reduced_by_sign-requires-clause-below g c).After-split-high in
    let below =
    high_sum_below g.T.PathWord.base (g.T.RingWord.number c.args.m) (g.T.PathWord.double_number c.args.t)
    (g.T.PathWord.double_number c.args.multiple) c.requires.cleared c.requires.first c.requires.second in
    omega (arith, below, high_sum_is_high_word g at)

pub returns : goal.returns
returns g c =
    c.reduced_by_sign.ensures.value
    ∙ ap (λ v. v % g.T.RingWord.number c.args.m) (sym (high_sum_is_high_word g (goal.at.returns g c).After-split-high))
