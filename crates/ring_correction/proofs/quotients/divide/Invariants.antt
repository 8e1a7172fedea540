use Rattle.num_modular.specs.Callers.{◌%◌, ◌<◌, ◌≤◌, HasInverse, length, entry}
use Rattle.num_modular.specs.Polynomials.{polynomial_at}
use Rattle.ring_correction.proofs.NearPairs.{Found}
use Rattle.ring_codes.specs.Erasure.{distance}
use Rattle.ring_correction.proofs.quotients.divide.Given as goal

-- the quotients at the points so far
abbrev pub invariant-points : goal.invariant-points
invariant-points g l =
    let ring = g.R.Reducer in let m = ring.modulus l.fn.r in let number = g.T.RingWord.number in
    let e = polynomial_at (length l.fn.locator) (entry number ring.value m l.fn.locator) in
    let x = entry number ring.value m l.fn.points in
    (l.found < length l.fn.chosen) × (l.found ≤ l.i)
    × (l.found < l.i → HasInverse m 0 → ⊥)
    × (distance l.i (λ j. e (x j) % m) (λ j. 0) ≤ l.found)
    × Found number ring.form ring.value m l.i l.found x
    (polynomial_at (length l.fn.numerator) (entry number ring.value m l.fn.numerator)) e l.chosen l.values
