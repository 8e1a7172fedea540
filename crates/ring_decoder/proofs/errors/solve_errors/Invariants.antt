use Rattle.num_modular.specs.Callers.{◌+◌, ◌-◌, ◌*◌, ◌%◌, HoldBelow, entry, length}
use Rattle.num_modular.specs.Polynomials.{polynomial_at}
use Rattle.num_modular.specs.Sums.{sum_below}
use Rattle.ring_decoder.proofs.errors.solve_errors.Given as goal

-- the sums at the points so far
abbrev pub invariant-points : goal.invariant-points
invariant-points g l =
    let ring = g.R.Reducer in let m = ring.modulus l.fn.r in let number = g.T.RingWord.number in
    let x = entry number ring.value m l.fn.points in let q = length l.fn.points in
    let f = entry number ring.value m l.product in let s = entry number ring.value m l.fn.syndromes in
    HoldBelow number ring.form ring.value m l.divisors
    (λ j. sum_below q (λ k. polynomial_at (k + 1) (λ i. f (q + 1 - (k + 1) + i)) (x j) * s (q - 1 - k)) % m) l.j
