use Rattle.ring_codes.proofs.Names.{◌≡◌, ◌*◌, ◌%◌, ◌<◌, ◌≤◌, All, IsForm, DoneBelow, entry, difference}
use Rattle.ring_codes.proofs.erasure.newton.multiply_by_differences.Given as goal

-- the products from the start on so far are multiplied
abbrev pub invariant-points : goal.invariant-points
invariant-points g l =
    let ring = g.R.Reducer in let m = ring.modulus l.fn.r in let number = g.T.RingWord.number in
    let x = entry number ring.value m l.fn.points in let old = entry number ring.value m l.fn.products in
    All (λ f. IsForm ring.form ring.value m (number f)) l.products
    × DoneBelow (λ k v. (l.fn.start ≤ k → v ≡ (old k * difference m x k l.fn.place) % m) × (k < l.fn.start → v ≡ old k))
    l.i
    old (entry number ring.value m l.products)
