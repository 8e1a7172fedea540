use Rattle.num_modular.specs.Callers.{◌≤◌, ◌+◌, ◌%◌, ℕ, ◌∙◌, ap, arith, length, entry}
use Rattle.num_modular.specs.Polynomials.{polynomial_at}
use Rattle.num_modular.specs.PolynomialLaws.{polynomial-same}
use Rattle.std.proofs.Common.{take, length-take-le}
use Rattle.ring_codes.proofs.Symbols.{entry_front}
use Rattle.ring_decoder.proofs.search.fill_values.Goals as goal

pub returns-else-degree-eq0-clause-values : goal.returns-else-degree-eq0-clause-values
returns-else-degree-eq0-clause-values g c =
    let ring = g.R.Reducer in let m = ring.modulus c.args.r.now in let number = g.T.RingWord.number in
    let other = c.if-degree-eq0.false in let locator = c.args.locator.now in let d = c.args.degree in
    let x = entry number ring.value m c.args.points.now in
    let room : d + 1 ≤ length locator = omega (arith, c.requires.degree) in
    let front : ℕ → ℕ = entry number ring.value m (take (d + 1) locator) in
    record {
      none = λ e. absurd (other e);
      some = λ l i b. c.evaluate_each.ensures.encoding.symbol i b
          ∙ ap (λ k. polynomial_at k front (x i) % m) (length-take-le (d + 1) locator room)
          ∙ ap (λ v. v % m) (polynomial-same (d + 1) front (entry number ring.value m locator) (x i)
          (λ j k. entry_front number ring.value m locator (d + 1) j k room));
    }
