use Rattle.ring_codes.proofs.Names.{◌+◌, ◌-◌, ◌%◌, length, IsCheckedFormOf, entry, polynomial_at}
use Rattle.ring_codes.proofs.erasure.evaluate.Given as goal

-- the value of the last k coefficients
abbrev pub invariant-coefficients : goal.invariant-coefficients
invariant-coefficients g l =
    let ring = g.R.Reducer in let m = ring.modulus l.fn.r in let number = g.T.RingWord.number in
    let from = length l.fn.coefficients - l.k in
    IsCheckedFormOf ring.form ring.value m (number l.value)
    (polynomial_at l.k (λ i. entry number ring.value m l.fn.coefficients (from + i))
    (ring.value m (number l.fn.point)) % m)
