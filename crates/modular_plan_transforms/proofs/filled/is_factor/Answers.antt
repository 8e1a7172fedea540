use Rattle.std.proofs.Common.{◌≡◌, ◌*◌, ◌<◌, ◌↔◌, ap, arith, sym, ◌∙◌}
use Rattle.std.proofs.lemmas.Bool.{false≢true}
use Rattle.modular_plan_passes.specs.Factors.{IsFactor}
use Rattle.modular_plan_transforms.proofs.PlanTables.{factor_by_sum}
use Rattle.modular_plan_transforms.proofs.filled.is_factor.Goals as goal
use Rattle.modular_plan_transforms.proofs.filled.is_factor.Goals.{After-split-high}

-- the three tests together
tests_decide_factor : (g : _) (c : After-split-high g) → let n = g.T.RingWord.number in
    ((n c.args.w.now.value < n c.args.m) × (n c.wrapping_sub-rest.result < n c.args.m)
    × (n c.split-high.result.1 ≡ n c.args.w.now.value))
    ↔ IsFactor g.T.PathWord.base (n c.args.m) (n c.args.w.now.value) (n c.args.w.now.quotient)
tests_decide_factor g c =
    let b = g.T.PathWord.base in
    let none = ap (λ z. b * z) c.zero-2.ensures in
    let value = c.product-whole.ensures.value in
    factor_by_sum _ _ _ _ _ _ _ _ _ c.product-whole.ensures.other_fits (sym value ∙ c.split-low.ensures.value)
    (c.wrapping_sub-rest.ensures.value ∙ c.zero.ensures) c.wrapping_sub-rest.ensures.fits
    (omega (arith, none, value, c.merge.ensures.value, c.double_plus.ensures, c.split-high.ensures.value))
    c.split-high.ensures.low_fits

pub returns-then-not-is_below-2 : goal.returns-then-not-is_below-2
returns-then-not-is_below-2 g c = search (arith, false≢true, tests_decide_factor)

pub returns : goal.returns
returns g c =
    let n = g.T.RingWord.number in
    let equal = g.met.T.RingWord.equal c.split-high.result.1 c.args.w.now.value in
    let tests = tests_decide_factor g (goal.at.returns g c).After-split-high in (
      λ t. tests.0 (
        c.is_below.ensures.below.0 c.if-not-is_below.false,
        c.is_below-2.ensures.below.0 c.if-not-is_below-2.false,
        equal.0 (sym c.eq.ensures ∙ t),
      ),
      λ is. c.eq.ensures ∙ equal.1 (tests.1 is).2,
    )
