use Rattle.ring_codes.proofs.Names.{◌%◌, IsCheckedFormOf, entry, product_below, difference}
use Rattle.ring_codes.proofs.erasure.points_fit.Given as goal

-- the product of the products so far
abbrev pub invariant-points : goal.invariant-points
invariant-points g l =
    let ring = g.R.Reducer in let m = ring.modulus l.fn.r in let number = g.T.RingWord.number in
    IsCheckedFormOf ring.form ring.value m (number l.product)
    (product_below l.i (λ i. product_below i (difference m (entry number ring.value m l.fn.points) i) % m) % m)
