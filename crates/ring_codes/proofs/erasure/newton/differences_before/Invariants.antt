use Rattle.ring_codes.proofs.Names.{◌%◌, IsCheckedFormOf, entry, product_below, difference}
use Rattle.ring_codes.proofs.erasure.newton.differences_before.Given as goal

-- the product of the differences so far
abbrev pub invariant-differences : goal.invariant-differences
invariant-differences g l =
    let ring = g.R.Reducer in let m = ring.modulus l.fn.r in let number = g.T.RingWord.number in
    IsCheckedFormOf ring.form ring.value m (number l.product)
    (product_below l.j (difference m (entry number ring.value m l.fn.points) l.fn.place) % m)
