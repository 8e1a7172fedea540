use Rattle.ring_codes.proofs.Names.{◌≡◌, ◌+◌, ◌-◌, ◌<◌, ℕ, All, length, IsForm, entry, Congruent, polynomial_at}
use Rattle.ring_codes.proofs.Names.{newton_form}
use Rattle.ring_codes.proofs.erasure.newton.expand.Given as goal

-- the last k coefficients are those of the form with the last k points, and the others as they were
abbrev pub invariant-points : goal.invariant-points
invariant-points g l =
    let ring = g.R.Reducer in let m = ring.modulus l.fn.r in let number = g.T.RingWord.number in
    let from = length l.fn.form - l.k in
    All (λ f. IsForm ring.form ring.value m (number f)) l.form
    × ((a : ℕ) → Congruent m (polynomial_at l.k (λ i. entry number ring.value m l.form (from + i)) a)
    (newton_form m (entry number ring.value m l.fn.form) (entry number ring.value m l.fn.points) a from l.k))
    × ((i : ℕ) → i < from → entry number ring.value m l.form i ≡ entry number ring.value m l.fn.form i)
