use Rattle.std.proofs.Common.{◌≡◌, ℕ, ◌*◌, ◌≤◌, length, arith, inl, inr}
use Rattle.std.proofs.lemmas.Bool.{cases_lt}
use Rattle.long_product.proofs.Bounds.{sum_by_left, sum_by_right}
use Rattle.long_product.specs.Polynomials.{product_sum}
use Rattle.long_product.proofs.polynomials.count_for.Goals as goal

pub returns : goal.returns
returns c =
    let xs = c.args.xs.now in
    let ys = c.args.ys.now in
    let few : (e : ℕ) → product_sum xs ys e ≤ c.min.result * (c.greatest.result * c.greatest-2.result) =
    λ e. elim (cases_lt (length xs) (length ys)) [
      | inl l ↦
          let is : c.min.result ≡ length xs = omega (arith, l) in
          rw is (sum_by_left xs ys _ _ e c.greatest.ensures c.greatest-2.ensures)
      | inr l ↦
          let is : c.min.result ≡ length ys = omega (arith, l) in
          rw is (sum_by_right xs ys _ _ e c.greatest.ensures c.greatest-2.ensures)
    ] in
    record {
      some = c.primes_for.ensures.some;
      most = c.primes_for.ensures.most;
      one = λ is e. omega (arith, c.primes_for.ensures.one is, few e);
      two = λ is e. omega (arith, c.primes_for.ensures.two is, few e);
    }
