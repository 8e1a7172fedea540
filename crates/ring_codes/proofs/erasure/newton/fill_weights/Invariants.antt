use Rattle.ring_codes.proofs.Names.{◌≡◌, ◌%◌, ◌<◌, ◌≤◌, ℕ, All, IsForm, HoldBelow, entry, length, product_below}
use Rattle.ring_codes.proofs.Names.{difference}
use Rattle.ring_codes.proofs.erasure.newton.fill_weights.Given as goal

-- ones so far
abbrev pub invariant-ones : goal.invariant-ones
invariant-ones g l =
    let ring = g.R.Reducer in let m = ring.modulus l.fn.r in
    HoldBelow g.T.RingWord.number ring.form ring.value m l.weights (λ i. 1 % m) l.i

-- the products of all points before, and of those so far at the others
abbrev pub invariant-points : goal.invariant-points
invariant-points g l =
    let ring = g.R.Reducer in let m = ring.modulus l.fn.r in let number = g.T.RingWord.number in
    let x = entry number ring.value m l.fn.points in let v = entry number ring.value m l.weights in
    All (λ f. IsForm ring.form ring.value m (number f)) l.weights
    × ((i : ℕ) → i < l.j → v i ≡ product_below i (difference m x i) % m)
    × ((i : ℕ) → l.j ≤ i → i < length l.fn.weights → v i ≡ product_below l.j (difference m x i) % m)
