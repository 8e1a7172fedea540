-- The sum of t and the multiple, by the base, modulo m.
use Rattle.std.proofs.Common.{◌≡◌, ℕ, ◌+◌, ◌/◌, ◌%◌, arith}
use Rattle.modular_word.proofs.ReductionSteps.{high_sum_is_reduction}
use Rattle.modular_word.specs.Reduction.{IsReduction}
use Rattle.modular_monty.proofs.known.reduce_by_known.Goals as goal
use Rattle.modular_monty.proofs.known.reduce_by_known.Goals.{After-bits}

-- a result that is the high word modulo m is the reduction
high_word_residue_is_reduction : (g : _) (c : After-bits g) (r : ℕ)
    → r
    ≡ (g.T.PathWord.double_number c.args.t + g.T.PathWord.double_number c.args.multiple) / g.T.PathWord.base
    % g.T.RingWord.number c.args.m
    → IsReduction g.T.PathWord.base (g.T.RingWord.number c.args.m) (g.T.PathWord.double_number c.args.t) r
high_word_residue_is_reduction g c r is =
    high_sum_is_reduction _ _ _ (g.T.RingWord.number c.args.x) _ c.requires.below c.requires.low (search (arith, is))

pub returns-then-has_top_bit : goal.returns-then-has_top_bit
returns-then-has_top_bit g c =
    high_word_residue_is_reduction g (goal.at.returns-then-has_top_bit g c).After-bits _ c.high_sum_by_two_sums.ensures

pub returns-else-has_top_bit : goal.returns-else-has_top_bit
returns-else-has_top_bit g c =
    high_word_residue_is_reduction g (goal.at.returns-else-has_top_bit g c).After-bits _ c.high_sum_by_sign.ensures
