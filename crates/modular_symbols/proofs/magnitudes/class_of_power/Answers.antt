-- The class of each power, in the order of the tests.
use Rattle.std.proofs.Common.{◌≡◌, ◌≢◌, pos, sym, ◌∙◌, arith}
use Rattle.std.proofs.lemmas.Bool.{false≢true}
use Rattle.std.proofs.lemmas.Bool.Decides.{nat_tests}
use Rattle.modular_symbols.specs.Kronecker.{signed}
use Rattle.modular_symbols.specs.Legendre.{checked_legendre_of}
use Rattle.modular_symbols.proofs.LegendreClass.{class_by, class_is}
use Rattle.modular_symbols.proofs.magnitudes.class_of_power.Goals as goal
use Rattle.modular_symbols.proofs.magnitudes.class_of_power.Goals.{After-powm-power, After-eq-else-eq}

-- what is returned, by the power
legendre_is_class_of_power : (g : _) (c : After-powm-power g)
    → checked_legendre_of (signed c.args.a_minus (pos (g.T.RingWord.number c.args.a)))
    (signed c.args.n_minus (pos (g.T.RingWord.number c.args.n)))
    ≡ class_by (g.T.RingWord.number c.minus-last.result) (g.T.RingWord.number c.powm-power.result)
legendre_is_class_of_power g c = search (arith, false≢true, class_is)

pub returns-then-is_zero_word-2 : goal.returns-then-is_zero_word-2
returns-then-is_zero_word-2 g c =
    let zero = c.is_zero_word-else-is_zero_word.ensures.zero.0 c.if-is_zero_word-2.true in
    let by = legendre_is_class_of_power g (goal.at.returns-then-is_zero_word-2 g c).After-powm-power in
    grind (arith, nat_tests)

pub returns-then-eq : goal.returns-then-eq
returns-then-eq g c =
    let one = (g.met.T.RingWord.equal c.powm-power.result c.one-else-is_zero_word-2.result).0
    (sym c.eq.ensures ∙ c.if-eq.true) ∙ c.one-else-is_zero_word-2.ensures in
    let by = legendre_is_class_of_power g (goal.at.returns-then-eq g c).After-powm-power in
    grind (arith, nat_tests)

-- a power that is neither 0 nor 1
power_is_not_zero : (g : _) (c : After-eq-else-eq g) → g.T.RingWord.number c.powm-power.result ≢ 0
power_is_not_zero g c = λ e. false≢true (sym c.if-is_zero_word-2.false ∙ c.is_zero_word-else-is_zero_word.ensures.zero.1
    e)

power_is_not_one : (g : _) (c : After-eq-else-eq g) → g.T.RingWord.number c.powm-power.result ≢ 1
power_is_not_one g c = search (arith, false≢true)

pub returns-then-eq-2 : goal.returns-then-eq-2
returns-then-eq-2 g c =
    let d = (goal.at.returns-then-eq-2 g c).After-eq-else-eq in
    let is_last = (g.met.T.RingWord.equal c.powm-power.result c.minus-last.result).0
    (sym c.eq-else-eq.ensures ∙ c.if-eq-2.true) in
    let by = legendre_is_class_of_power g (goal.at.returns-then-eq-2 g c).After-powm-power in
    grind (arith, nat_tests, power_is_not_zero g d, power_is_not_one g d)

pub returns-else-eq-2 : goal.returns-else-eq-2
returns-else-eq-2 g c =
    let n = g.T.RingWord.number in
    let d = (goal.at.returns-else-eq-2 g c).After-eq-else-eq in
    let not_last : n c.powm-power.result ≢ n c.minus-last.result = λ e.
    let t = (g.met.T.RingWord.equal c.powm-power.result c.minus-last.result).1 e in
    false≢true (sym c.if-eq-2.false ∙ c.eq-else-eq.ensures ∙ t) in
    let by = legendre_is_class_of_power g (goal.at.returns-else-eq-2 g c).After-powm-power in
    grind (arith, nat_tests, power_is_not_zero g d, power_is_not_one g d)
