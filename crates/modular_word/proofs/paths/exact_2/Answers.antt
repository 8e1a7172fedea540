-- Exact division of a double word: the low word of the quotient first, then what is left of the high part.
use Rattle.std.proofs.Common.{◌≡◌, ◌+◌, ◌*◌, ◌/◌, ◌<◌, arith, ap, sym, ◌∙◌}
use Rattle.modular_word.proofs.ExactSteps.{low_again, high_left}
use Rattle.modular_word.proofs.paths.exact_2.Goals as goal
use Rattle.modular_word.proofs.paths.exact_2.Goals.{After-split-h}

-- the low word of the quotient, times the divisor: the low word of the number, and a carry
low_word : (g : _) (c : After-split-h g)
    → g.T.RingWord.number c.wrapping_mul-q0.result * g.T.RingWord.number c.args.d
    ≡ g.T.RingWord.number c.split-n0.result.0 + g.T.PathWord.base * g.T.RingWord.number c.split-h.result.1
low_word g c =
    low_again _ _ _ _ _ _ _ c.split-n0.ensures.low_fits c.split-h.ensures.low_fits
    c.requires.unit c.wrapping_mul-q0.ensures.value (sym c.product.ensures.value ∙ c.split-h.ensures.value)

pub returns-then-is_below : goal.returns-then-is_below
returns-then-is_below g c =
    let n = g.T.RingWord.number in
    let B = g.T.PathWord.base in
    let parts = low_word g (goal.at.returns-then-is_below g c).After-split-h in
    let over : n c.split-n0.result.1 < n c.split-h.result.1 = grind arith in
    λ K e.
    let left =
    high_left B (n c.args.d) (n c.args.inverse) (n c.split-n0.result.0) (n c.split-n0.result.1)
    (n c.wrapping_mul-q0.result) (n c.split-h.result.1) K c.split-n0.ensures.low_fits c.requires.unit
    c.wrapping_mul-q0.ensures.value parts (e ∙ c.split-n0.ensures.value) in
    absurd (omega arith)

pub returns : goal.returns
returns g c =
    let n = g.T.RingWord.number in
    let B = g.T.PathWord.base in
    let parts = low_word g (goal.at.returns g c).After-split-h in
    let d = n c.args.d in
    let x = n c.in_ok-q1.q1 in
    let high : x * d + n c.split-h.result.1 ≡ n c.split-n0.result.1 =
    omega (arith, c.in_ok-q1.ensures, c.minus.ensures.value) in
    let scaled : B * (x * d + n c.split-h.result.1) ≡ B * n c.split-n0.result.1 = ap (λ v. B * v) high in
    let whole : (n c.wrapping_mul-q0.result + B * x) * d ≡ g.T.PathWord.double_number c.args.n =
    omega (arith, c.split-n0.ensures.value) in
    ap (λ v. v * d) c.merge.ensures.value ∙ whole

pub returns-in_err-q1 : goal.returns-in_err-q1
returns-in_err-q1 g c =
    let n = g.T.RingWord.number in
    let B = g.T.PathWord.base in
    let parts = low_word g (goal.at.returns-in_err-q1 g c).After-split-h in
    rw c.from_residual.ensures (λ K e.
    let left =
    high_left B (n c.args.d) (n c.args.inverse) (n c.split-n0.result.0) (n c.split-n0.result.1)
    (n c.wrapping_mul-q0.result) (n c.split-h.result.1) K c.split-n0.ensures.low_fits c.requires.unit
    c.wrapping_mul-q0.ensures.value parts (e ∙ c.split-n0.ensures.value) in
    c.in_err-q1.ensures (K / B) (omega (arith, c.minus.ensures.value)))
