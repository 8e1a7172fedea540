use Rattle.num_modular.specs.Callers.{◌+◌, ◌-◌, ◌*◌, ◌%◌, IsCheckedFormOf, entry}
use Rattle.num_modular.specs.Polynomials.{polynomial_at}
use Rattle.num_modular.specs.Sums.{sum_below}
use Rattle.ring_decoder.proofs.errors.quotient_sum.Given as goal

-- the highest k coefficients of the quotient: the last of them, and the sum of the numbers times them
abbrev pub invariant-coefficients : goal.invariant-coefficients
invariant-coefficients g l =
    let ring = g.R.Reducer in let m = ring.modulus l.fn.r in let number = g.T.RingWord.number in
    let f = entry number ring.value m l.fn.coefficients in let s = entry number ring.value m l.fn.numbers in
    let a = ring.value m (number l.fn.point) in let q = l.fn.q in
    IsCheckedFormOf ring.form ring.value m (number l.quotient) (polynomial_at l.k (λ i. f (q + 1 - l.k + i)) a % m)
    × IsCheckedFormOf ring.form ring.value m (number l.sum)
    (sum_below l.k (λ k. polynomial_at (k + 1) (λ i. f (q + 1 - (k + 1) + i)) a * s (q - 1 - k)) % m)
