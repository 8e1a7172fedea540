use Rattle.ring_codes.proofs.Names.{◌%◌, IsCheckedFormOf, entry, product_below}
use Rattle.ring_codes.proofs.erasure.secrets.have_inverses.Given as goal

-- the product of the points so far
abbrev pub invariant-points : goal.invariant-points
invariant-points g l =
    let ring = g.R.Reducer in let m = ring.modulus l.fn.r in let number = g.T.RingWord.number in
    IsCheckedFormOf ring.form ring.value m (number l.product)
    (product_below l.i (entry number ring.value m l.fn.points) % m)
