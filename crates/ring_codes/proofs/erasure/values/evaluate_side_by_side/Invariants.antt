use Rattle.ring_codes.proofs.Names.{◌+◌, ◌-◌, ◌%◌, ◌≡◌, ◌<◌, ℕ, length, All, IsForm, HoldBelow, entry, polynomial_at}
use Rattle.ring_codes.proofs.erasure.values.evaluate_side_by_side.Given as goal

-- the values so far are 0
abbrev pub invariant-zeros : goal.invariant-zeros
invariant-zeros g l =
    let ring = g.R.Reducer in let m = ring.modulus l.fn.r in
    HoldBelow g.T.RingWord.number ring.form ring.value m l.values (λ i. 0 % m) l.i

-- the values of the last k coefficients
abbrev pub invariant-coefficients : goal.invariant-coefficients
invariant-coefficients g l =
    let ring = g.R.Reducer in let m = ring.modulus l.fn.r in let number = g.T.RingWord.number in
    let from = length l.fn.coefficients - l.k in
    All (λ f. IsForm ring.form ring.value m (number f)) l.values
    × ((j : ℕ) → j < length l.fn.points → entry number ring.value m l.values j
    ≡ polynomial_at l.k (λ i. entry number ring.value m l.fn.coefficients (from + i))
    (entry number ring.value m l.fn.points j) % m)
