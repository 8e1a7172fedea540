use Rattle.ring_codes.proofs.Names.{◌≡◌, ◌-◌, ◌*◌, ◌<◌, ℕ, All, IsForm, HoldBelow, entry, Congruent}
use Rattle.ring_codes.proofs.Roots.{expanded, constant_one}
use Rattle.ring_codes.proofs.erasure.roots.expand_roots.Given as goal

-- the coefficients so far are 0
abbrev pub invariant-zeros : goal.invariant-zeros
invariant-zeros g l =
    let ring = g.R.Reducer in let m = ring.modulus l.fn.r in
    HoldBelow g.T.RingWord.number ring.form ring.value m l.coefficients (λ k. 0) l.i

-- the product for the points so far, followed by zeros
abbrev pub invariant-points : goal.invariant-points
invariant-points g l =
    let ring = g.R.Reducer in let m = ring.modulus l.fn.r in let number = g.T.RingWord.number in
    let f = entry number ring.value m l.coefficients in
    All (λ f. IsForm ring.form ring.value m (number f)) l.coefficients
    × ((j : ℕ) → Congruent m (f j)
    (expanded l.i (λ k. (m - 1) * entry number ring.value m l.fn.points k) constant_one j))
    × ((j : ℕ) → l.i < j → f j ≡ 0)
