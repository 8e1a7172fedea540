use Rattle.ring_codes.proofs.Names.{◌≡◌, ◌+◌, ◌*◌, ◌<◌, ◌≤◌, ℕ, All, IsForm, entry, Congruent}
use Rattle.ring_codes.proofs.erasure.newton.subtract_multiples.Given as goal

-- the places before i - 1 are done, and the others as they were
abbrev pub invariant-places : goal.invariant-places
invariant-places g l =
    let ring = g.R.Reducer in let m = ring.modulus l.fn.r in let number = g.T.RingWord.number in
    let old = entry number ring.value m l.fn.values in
    All (λ f. IsForm ring.form ring.value m (number f)) l.values
    × ((k : ℕ) → l.fn.from ≤ k → k + 1 < l.i → Congruent m (entry number ring.value m l.values k
    + ring.value m (number l.fn.point) * old (k + 1)) (old k))
    × ((k : ℕ) → k < l.fn.from → entry number ring.value m l.values k ≡ old k)
    × ((k : ℕ) → l.i ≤ k + 1 → entry number ring.value m l.values k ≡ old k)
