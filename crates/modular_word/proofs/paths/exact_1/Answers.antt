-- Exact division of a word: the product with the inverse is the quotient exactly within the limit.
use Rattle.std.proofs.Common.{◌<◌, ◌≤◌, arith}
use Rattle.modular_word.proofs.ExactSteps.{exact_within, quotient_within}
use Rattle.modular_word.proofs.paths.exact_1.Goals as goal

pub returns-then-is_below : goal.returns-then-is_below
returns-then-is_below g c =
    let n = g.T.RingWord.number in
    λ k e.
    let w = quotient_within _ _ _ _ k _
    c.wrapping_mul-q.ensures.self_fits c.requires.unit c.wrapping_mul-q.ensures.value e in
    let over : n c.args.limit < n c.wrapping_mul-q.result = grind arith in
    absurd (omega (arith, w.1, c.requires.greatest))

pub returns-else-is_below : goal.returns-else-is_below
returns-else-is_below g c =
    let within : g.T.RingWord.number c.wrapping_mul-q.result ≤ g.T.RingWord.number c.args.limit = grind arith in
    exact_within _ _ _ _ _ c.wrapping_mul-q.ensures.self_fits c.requires.unit c.wrapping_mul-q.ensures.value
    (omega (arith, c.requires.greatest))
