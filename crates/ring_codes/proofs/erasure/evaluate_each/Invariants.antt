use Rattle.ring_codes.proofs.Names.{◌*◌, ◌%◌, ◌≡◌, length, HoldBelow, entry, polynomial_at}
use Rattle.ring_codes.proofs.erasure.evaluate_each.Given as goal

-- the symbols at the points of the groups so far
abbrev pub invariant-groups : goal.invariant-groups
invariant-groups g l =
    let ring = g.R.Reducer in let m = ring.modulus l.fn.r in let number = g.T.RingWord.number in
    (l.from ≡ 8 * l._done)
    × HoldBelow number ring.form ring.value m l.values
    (λ i. polynomial_at (length l.fn.coefficients) (entry number ring.value m l.fn.coefficients)
    (entry number ring.value m l.fn.points i) % m) l.from
