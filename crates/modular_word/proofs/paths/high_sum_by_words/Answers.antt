-- The high words, with the carry of the low ones, less m.
use Rattle.std.proofs.Common.{◌≡◌, ◌+◌, ◌/◌, ◌<◌, ap, ◌∙◌, arith, inl, inr}
use Rattle.modular_word.proofs.ReductionSteps.{high_sum_of, high_word_below_factor, high_sum_below, borrow_adds_base}
use Rattle.modular_word.proofs.ReductionSteps.{above_modulus, restored_rest_is_residue}
use Rattle.modular_word.proofs.paths.high_sum_by_words.Goals as goal
use Rattle.modular_word.proofs.paths.high_sum_by_words.Goals.{After-overflowing_add-rest, then-is_zero_word}
use Rattle.modular_word.proofs.paths.high_sum_by_words.Goals.{else-is_zero_word}

-- the two summands add up to the high word, less m, plus the base
summands_are_wrapped_high_sum : (g : _) (c : After-overflowing_add-rest g)
    → g.T.RingWord.number c.wrapping_sub.result + g.T.RingWord.number c.if-is_zero_word.carried
    + g.T.RingWord.number c.args.m
    ≡ (g.T.PathWord.double_number c.args.t + g.T.PathWord.double_number c.args.multiple) / g.T.PathWord.base
    + g.T.PathWord.base
summands_are_wrapped_high_sum g c =
    let n = g.T.RingWord.number in
    let first = c.split-high.ensures in
    let quotient =
    high_sum_of _ _ _ _ _ _ _
    _ c.requires.cleared first.value first.low_fits c.split-low.ensures.value c.split-low.ensures.low_fits
    (elim c.if-is_zero_word.branch [
      | then-is_zero_word w ↦ inl (c.is_zero_word.ensures.zero.0 w.if-is_zero_word.true, ap n w.carried-is)
      | else-is_zero_word w ↦
          inr (
            let other : n c.split-low.result.0 ≡ 0 → ⊥ = λ e. let s = c.is_zero_word.ensures.zero.1 e in cc
                (s, w.if-is_zero_word.false) in
                omega arith,
            ap n w.carried-is ∙ w.plus-carried.ensures ∙ ap (λ v. (n c.split-low.result.1) + v) w.one.ensures,
          )
    ]) in
    let difference =
    borrow_adds_base _ _ _ _ (high_word_below_factor _ _ _ _ _ first.value c.requires.first) c.requires.fits
    c.wrapping_sub.ensures.fits c.wrapping_sub.ensures.value in
    omega (arith, quotient, difference)

-- the high word is less than twice m
high_word_below_twice_modulus : (g : _) (c : After-overflowing_add-rest g)
    → (g.T.PathWord.double_number c.args.t + g.T.PathWord.double_number c.args.multiple) / g.T.PathWord.base
    < g.T.RingWord.number c.args.m + g.T.RingWord.number c.args.m
high_word_below_twice_modulus g c = high_sum_below _ _ _ _ c.requires.cleared c.requires.first c.requires.second

pub returns-then-is_above : goal.returns-then-is_above
returns-then-is_above g c =
    let at = (goal.at.returns-then-is_above g c).After-overflowing_add-rest in
    let n = g.T.RingWord.number in
    above_modulus (n c.args.m) _ (n c.overflowing_add-rest.result.0) (high_word_below_twice_modulus g at)
    (omega (arith, summands_are_wrapped_high_sum g at, c.overflowing_add-rest.ensures.carried c.if-is_above.true))

pub returns-else-is_above : goal.returns-else-is_above
returns-else-is_above g c =
    let at = (goal.at.returns-else-is_above g c).After-overflowing_add-rest in
    let n = g.T.RingWord.number in
    restored_rest_is_residue g.T.PathWord.base (n c.args.m) _ (n c.overflowing_add-rest.result.0)
    (n c.wrapping_add.result)
    c.requires.fits (high_word_below_twice_modulus g at) c.overflowing_add-rest.ensures.fits
    (omega (arith, summands_are_wrapped_high_sum g at, c.overflowing_add-rest.ensures.exact c.if-is_above.false))
    c.wrapping_add.ensures.value
