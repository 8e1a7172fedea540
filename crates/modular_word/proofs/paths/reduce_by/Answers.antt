-- The sum of t and the multiple, by the base, modulo m.
use Rattle.std.proofs.Common.{◌≡◌, ℕ, ◌+◌, ◌*◌, ◌/◌, ◌%◌, ◌<◌, ap, ◌∙◌, arith}
use Rattle.modular_word.proofs.ReductionSteps.{multiple_below, high_sum_is_reduction}
use Rattle.modular_word.specs.Reduction.{IsReduction}
use Rattle.modular_word.proofs.paths.reduce_by.Goals as goal
use Rattle.modular_word.proofs.paths.reduce_by.Goals.{After-bits}

-- the low word of the sum is 0
low_sum_word_is_zero : (g : _) (c : After-bits g)
    → (g.T.PathWord.double_number c.args.t + g.T.PathWord.double_number c.args.multiple) % g.T.PathWord.base ≡ 0
low_sum_word_is_zero g c =
    ap (λ v. (g.T.PathWord.double_number c.args.t + v) % g.T.PathWord.base) c.requires.multiple ∙ c.requires.low

-- the multiple is below m times the base
multiple_below_scaled_modulus : (g : _) (c : After-bits g)
    → g.T.PathWord.double_number c.args.multiple < g.T.PathWord.base * g.T.RingWord.number c.args.m
multiple_below_scaled_modulus g c =
    omega (
      arith,
      c.requires.multiple,
      multiple_below _ _ _ _ c.requires.below c.requires.x_fits,
    )

-- a result that is the high word modulo m is the reduction
reduced_high_word_is_reduction : (g : _) (c : After-bits g) (r : ℕ)
    → r
    ≡ (g.T.PathWord.double_number c.args.t + g.T.PathWord.double_number c.args.multiple) / g.T.PathWord.base
    % g.T.RingWord.number c.args.m
    → IsReduction g.T.PathWord.base (g.T.RingWord.number c.args.m) (g.T.PathWord.double_number c.args.t) r
reduced_high_word_is_reduction g c r is =
    high_sum_is_reduction _ _ _ _ _ c.requires.below c.requires.low
    (is ∙ ap (λ v. (((g.T.PathWord.double_number c.args.t) + v) / g.T.PathWord.base) % g.T.RingWord.number c.args.m)
    c.requires.multiple)

pub high_sum_by_words-requires-clause-cleared : goal.high_sum_by_words-requires-clause-cleared
high_sum_by_words-requires-clause-cleared g c =
    low_sum_word_is_zero g (goal.at.high_sum_by_words-requires-clause-cleared g c).After-bits

pub high_sum_by_words-requires-clause-second : goal.high_sum_by_words-requires-clause-second
high_sum_by_words-requires-clause-second g c =
    multiple_below_scaled_modulus g (goal.at.high_sum_by_words-requires-clause-second g c).After-bits

pub high_sum_by_double_words-requires-clause-cleared : goal.high_sum_by_double_words-requires-clause-cleared
high_sum_by_double_words-requires-clause-cleared g c =
    low_sum_word_is_zero g (goal.at.high_sum_by_double_words-requires-clause-cleared g c).After-bits

pub high_sum_by_double_words-requires-clause-second : goal.high_sum_by_double_words-requires-clause-second
high_sum_by_double_words-requires-clause-second g c =
    multiple_below_scaled_modulus g (goal.at.high_sum_by_double_words-requires-clause-second g c).After-bits

pub returns-then-bits-gt32 : goal.returns-then-bits-gt32
returns-then-bits-gt32 g c = reduced_high_word_is_reduction g (goal.at.returns-then-bits-gt32 g c).After-bits _
    c.high_sum_by_words.ensures

pub returns-else-bits-gt32 : goal.returns-else-bits-gt32
returns-else-bits-gt32 g c =
    reduced_high_word_is_reduction g (goal.at.returns-else-bits-gt32 g c).After-bits _
    c.high_sum_by_double_words.ensures
