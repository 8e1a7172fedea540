use Rattle.ring_codes.proofs.Names.{◌≡◌, ◌+◌, ◌-◌, ◌*◌, ◌%◌, ◌<◌, ◌≤◌, ℕ, All, IsForm, entry, length, product_below}
use Rattle.ring_codes.proofs.Names.{difference, product_but}
use Rattle.ring_codes.proofs.erasure.newton.fill_differences.Given as goal

-- the products of the differences from the points before, and from the last ones so far; from all others, where these
-- are all
-- behind
abbrev pub invariant-points : goal.invariant-points
invariant-points g l =
    let ring = g.R.Reducer in let m = ring.modulus l.fn.r in let number = g.T.RingWord.number in
    let n = length l.fn.points in let x = entry number ring.value m l.fn.points in
    All (λ f. IsForm ring.form ring.value m (number f)) l.products
    × ((i : ℕ) → i + l.k < n → entry number ring.value m l.products i
    ≡ (product_below i (difference m x i) * product_below l.k (λ j. difference m x i (n - 1 - j))) % m)
    × ((i : ℕ) → i < n → n ≤ i + l.k → entry number ring.value m l.products i ≡ product_but m n x i (x i) % m)
