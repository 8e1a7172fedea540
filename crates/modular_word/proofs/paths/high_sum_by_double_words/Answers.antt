-- One sum of double words: its high word is that of t and the multiple, less m modulo the base.
use Rattle.std.proofs.Common.{◌≡◌, ◌+◌, ◌*◌, ◌/◌, ◌<◌, ap, arith}
use Rattle.modular_word.proofs.Divisors.{multiple_of}
use Rattle.modular_word.proofs.ReductionSteps.{complement_of, high_sum_below, above_modulus, restored_rest_is_residue}
use Rattle.modular_word.proofs.ReductionSteps.{double_carried, double_exact}
use Rattle.modular_word.proofs.paths.high_sum_by_double_words.Goals as goal
use Rattle.modular_word.proofs.paths.high_sum_by_double_words.Goals.{After-merge, After-split-rest}

-- the base less m
complement_completes_base : (g : _) (c : After-merge g)
    → g.T.RingWord.number c.wrapping_sub-complement.result + g.T.RingWord.number c.args.m ≡ g.T.PathWord.base
complement_completes_base g c =
    complement_of _ _ _ _ _ c.requires.first c.requires.fits
    c.wrapping_sub-complement.ensures.fits c.zero.ensures c.wrapping_sub-complement.ensures.value

pub double_plus-more-requires : goal.double_plus-more-requires
double_plus-more-requires g c =
    let n = g.T.RingWord.number in
    let B = g.T.PathWord.base in
    let m = n c.args.m in
    let x = n c.wrapping_sub-complement.result in
    let product : B * (x + m) ≡ B * B =
    ap (λ v. B * v) (complement_completes_base g (goal.at.double_plus-more-requires g c).After-merge) in
    omega (arith, product, c.requires.first, c.merge.ensures.value, c.zero-2.ensures)

-- what is added to t
enlarged_sum_adds_complement : (g : _) (c : After-split-rest g)
    → g.T.PathWord.double_number c.double_plus-more.result
    ≡ g.T.PathWord.double_number c.args.t + g.T.PathWord.base * g.T.RingWord.number c.wrapping_sub-complement.result
enlarged_sum_adds_complement g c = omega (arith, c.double_plus-more.ensures, c.merge.ensures.value, c.zero-2.ensures)

-- the high word is less than twice m
high_sum_below_twice_modulus : (g : _) (c : After-split-rest g)
    → (g.T.PathWord.double_number c.args.t + g.T.PathWord.double_number c.args.multiple) / g.T.PathWord.base
    < g.T.RingWord.number c.args.m + g.T.RingWord.number c.args.m
high_sum_below_twice_modulus g c = high_sum_below _ _ _ _ c.requires.cleared c.requires.first c.requires.second

pub returns-then-is_above : goal.returns-then-is_above
returns-then-is_above g c =
    let at = (goal.at.returns-then-is_above g c).After-split-rest in
    let n = g.T.RingWord.number in
    let W = g.T.PathWord.double_number in
    let B = g.T.PathWord.base in
    let rest = c.split-rest.ensures in
    above_modulus (n c.args.m) _ (n c.split-rest.result.1) (high_sum_below_twice_modulus g at)
    (double_carried B (n c.args.m) _ (n c.wrapping_sub-complement.result) (W c.args.t) (W c.args.multiple)
    (W c.double_plus-more.result) (W c.double_overflowing_add-sum.result.0) (n c.split-rest.result.0)
    (n c.split-rest.result.1) (multiple_of B (W c.args.t + W c.args.multiple) c.requires.cleared)
    (complement_completes_base g (goal.at.returns-then-is_above g c).After-merge) (enlarged_sum_adds_complement g at)
    (c.double_overflowing_add-sum.ensures.carried c.if-is_above.true)
    rest.value rest.low_fits)

pub returns-else-is_above : goal.returns-else-is_above
returns-else-is_above g c =
    let at = (goal.at.returns-else-is_above g c).After-split-rest in
    let n = g.T.RingWord.number in
    let W = g.T.PathWord.double_number in
    let B = g.T.PathWord.base in
    let rest = c.split-rest.ensures in
    restored_rest_is_residue B (n c.args.m) _ (n c.split-rest.result.1) (n c.wrapping_add.result) c.requires.fits
    (high_sum_below_twice_modulus g at)
    rest.high_fits
    (double_exact B (n c.args.m) _ (n c.wrapping_sub-complement.result) (W c.args.t) (W c.args.multiple)
    (W c.double_plus-more.result) (W c.double_overflowing_add-sum.result.0) (n c.split-rest.result.0)
    (n c.split-rest.result.1) (multiple_of B (W c.args.t + W c.args.multiple) c.requires.cleared)
    (complement_completes_base g (goal.at.returns-else-is_above g c).After-merge) (enlarged_sum_adds_complement g at)
    (c.double_overflowing_add-sum.ensures.exact c.if-is_above.false)
    rest.value rest.low_fits) c.wrapping_add.ensures.value
