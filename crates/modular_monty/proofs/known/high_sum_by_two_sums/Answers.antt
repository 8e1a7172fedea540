-- The sum of t and the multiple, and that sum less m modulo the base: a carry says that the second is exact.
use Rattle.std.proofs.Common.{◌≡◌, ◌+◌, ◌*◌, ◌/◌, ◌<◌, sym, ap, ◌∙◌, arith}
use Rattle.std.proofs.Math.Nat.{mod-eq_of_lt}
use Rattle.modular_word.proofs.Divisors.{multiple_of}
use Rattle.modular_word.proofs.ReductionSteps.{complement_of, high_sum_below, above_modulus, double_carried}
use Rattle.modular_word.proofs.ReductionSteps.{double_exact}
use Rattle.modular_monty.proofs.HighWords.{high_is, small_sum_has_no_carry}
use Rattle.modular_monty.proofs.known.high_sum_by_two_sums.Goals as goal
use Rattle.modular_monty.proofs.known.high_sum_by_two_sums.Goals.{After-merge, After-split-rest}

-- the base less m
complement_and_modulus_make_base : (g : _) (c : After-merge g)
    → g.T.RingWord.number c.wrapping_sub-complement.result + g.T.RingWord.number c.args.m ≡ g.T.PathWord.base
complement_and_modulus_make_base g c =
    complement_of _ _ _ _ _ c.requires.first c.requires.fits c.wrapping_sub-complement.ensures.fits
    c.zero.ensures c.wrapping_sub-complement.ensures.value

pub double_plus-more-requires : goal.double_plus-more-requires
double_plus-more-requires g c =
    let n = g.T.RingWord.number in
    let B = g.T.PathWord.base in
    let m = n c.args.m in
    let x = n c.wrapping_sub-complement.result in
    let product : B * (x + m) ≡ B * B =
    ap (λ v. B * v) (complement_and_modulus_make_base g (goal.at.double_plus-more-requires g c).After-merge) in
    omega (arith, product, c.requires.first, c.merge.ensures.value, c.zero-2.ensures)

-- what is added to t
first_sum_adds_complement : (g : _) (c : After-split-rest g)
    → g.T.PathWord.double_number c.double_plus-more.result
    ≡ g.T.PathWord.double_number c.args.t
    + g.T.PathWord.base * g.T.RingWord.number c.wrapping_sub-complement.result
first_sum_adds_complement g c = omega (arith, c.double_plus-more.ensures, c.merge.ensures.value, c.zero-2.ensures)

pub returns-then-is_above : goal.returns-then-is_above
returns-then-is_above g c =
    let at = (goal.at.returns-then-is_above g c).After-split-rest in
    let rest = c.split-rest.ensures in
    above_modulus _ _ _ (high_sum_below _ _ _ _ c.requires.cleared c.requires.first c.requires.second)
    (double_carried _ _ _ _ _ _ _ _ _ _ (multiple_of _ _ c.requires.cleared)
    (complement_and_modulus_make_base g (goal.at.returns-then-is_above g c).After-merge)
    (first_sum_adds_complement g at)
    (c.double_overflowing_add-less.ensures.carried c.if-is_above.true) rest.value rest.low_fits)

pub returns-else-is_above : goal.returns-else-is_above
returns-else-is_above g c =
    let at = (goal.at.returns-else-is_above g c).After-split-rest in
    let n = g.T.RingWord.number in
    let W = g.T.PathWord.double_number in
    let B = g.T.PathWord.base in
    let rest = c.split-rest.ensures in
    let high = c.split-high.ensures in
    let sum = c.double_overflowing_add-sum in
    let less =
    double_exact _ _ _ _ _ _ _ _ _ _ (multiple_of B (W c.args.t + W c.args.multiple) c.requires.cleared)
    (complement_and_modulus_make_base g (goal.at.returns-else-is_above g c).After-merge)
    (first_sum_adds_complement g at)
    (c.double_overflowing_add-less.ensures.exact c.if-is_above.false) rest.value rest.low_fits in
    let below : (W c.args.t + W c.args.multiple) / B < n c.args.m = omega (arith, less, rest.high_fits) in
    let exact =
    small_sum_has_no_carry B (n c.args.m) (W c.args.t + W c.args.multiple) (W sum.result.0) sum.result.1
    c.requires.cleared below
    c.requires.fits sum.ensures.carried sum.ensures.exact in
    sym (mod-eq_of_lt below
    ∙ high_is B (W c.args.t + W c.args.multiple) (n c.split-high.result.0) (n c.split-high.result.1)
    (exact ∙ high.value) high.low_fits)
