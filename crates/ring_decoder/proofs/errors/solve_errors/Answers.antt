use Rattle.std.proofs.lemmas.Bool.{false≢true}
use Rattle.num_modular.specs.Callers.{ℕ, ◌+◌, ◌-◌, ◌*◌, ◌%◌, ◌∙◌, ap, refl, arith, length, entry, entry_read, hold_more}
use Rattle.num_modular.specs.Callers.{held_entry}
use Rattle.num_modular.specs.Polynomials.{polynomial_at}
use Rattle.num_modular.specs.Sums.{sum_below}
use Rattle.ring_decoder.proofs.SyndromeErrors.{error_found, divisors_tell}
use Rattle.ring_decoder.proofs.errors.solve_errors.Goals as goal

pub points-preserved : goal.points-preserved
points-preserved g c =
    let ring = g.R.Reducer in let m = ring.modulus c.args.r.now in let number = g.T.RingWord.number in
    let points = c.args.points.now in let x = entry number ring.value m points in let q : ℕ = length points in
    let f = entry number ring.value m c.expand_roots.new.coefficients in
    let s = entry number ring.value m c.args.syndromes.now in let j = c.points.j in
    let sum : ℕ → ℕ = λ a. sum_below q (λ k. polynomial_at (k + 1) (λ i. f (q + 1 - (k + 1) + i)) a * s (q - 1 - k)) % m
    in
    hold_more number ring.form ring.value m c.points.divisors j c.quotient_sum.result (λ j. sum (x j)) (omega arith)
    c.points.invariant c.quotient_sum.ensures.checked (c.quotient_sum.ensures.value
    ∙ ap sum (entry_read number ring.value m points j _ c.points-test.true c.index-points-j.is))

pub returns-clause-solved : goal.returns-clause-solved
returns-clause-solved g c =
    let ring = g.R.Reducer in let m = ring.modulus c.args.r.now in let number = g.T.RingWord.number in
    let positive = (g.met.R.Reducer.canonical c.args.r.now).positive in let points = c.args.points.now in
    let w = entry number ring.value m c.args.weights.now in
    let tell = divisors_tell m (length points) (entry number ring.value m points) w
    (entry number ring.value m c.multiply_each.new.products) positive
    (λ j l. c.multiply_each.ensures.products j (omega arith)
    ∙ ap (λ v. (v * w j) % m) (c.fill_differences.ensures.products j l)) in (
      λ t. tell.1 (λ j l. c.if-not-invert_each.ensures.each.0 refl j (omega arith)),
      λ both. refl,
    )

pub returns-then-not-invert_each-clause-solved : goal.returns-then-not-invert_each-clause-solved
returns-then-not-invert_each-clause-solved g c =
    let ring = g.R.Reducer in let m = ring.modulus c.args.r.now in let number = g.T.RingWord.number in
    let positive = (g.met.R.Reducer.canonical c.args.r.now).positive in let points = c.args.points.now in
    let w = entry number ring.value m c.args.weights.now in
    let tell = divisors_tell m (length points) (entry number ring.value m points) w
    (entry number ring.value m c.multiply_each.new.products) positive
    (λ j l. c.multiply_each.ensures.products j (omega arith)
    ∙ ap (λ v. (v * w j) % m) (c.fill_differences.ensures.products j l)) in (
      λ t. absurd (false≢true t),
      λ both. absurd (false≢true (c.if-not-invert_each.ensures.each.1 (λ j l. tell.0 both j (omega arith)))),
    )

pub returns-clause-errors : goal.returns-clause-errors
returns-clause-errors g c t e are j l =
    let ring = g.R.Reducer in let m = ring.modulus c.args.r.now in let number = g.T.RingWord.number in
    let positive = (g.met.R.Reducer.canonical c.args.r.now).positive in let points = c.args.points.now in
    let w = entry number ring.value m c.args.weights.now in
    error_found m (length points) j _ _ _ _ (entry number ring.value m points)
    (entry number ring.value m c.expand_roots.new.coefficients) w e (entry number ring.value m c.args.syndromes.now)
    positive
    ((returns-clause-solved g c).0 t).0 c.expand_roots.ensures.roots l are
    (held_entry number ring.form ring.value m c.points.divisors _ c.points.j j c.points.invariant (omega arith)
    (omega arith))
    (c.multiply_each.ensures.products j (omega arith)
    ∙ ap (λ v. (v * w j) % m) (c.fill_differences.ensures.products j l))
    (c.if-not-invert_each.ensures.inverses refl j (omega arith))
    (c.multiply_each-2.ensures.products j (omega arith))
