use Rattle.ring_codes.proofs.Names.{◌≡◌, ◌+◌, ◌*◌, ◌/◌, ◌%◌, length, HoldBelow, entry, product_but}
use Rattle.ring_codes.proofs.erasure.prepared.fill_rows.Given as goal

-- the rows so far
abbrev pub invariant-wanted : goal.invariant-wanted
invariant-wanted g l =
    let ring = g.R.Reducer in let m = ring.modulus l.fn.r in let number = g.T.RingWord.number in
    let k = length l.fn.known in
    (l.next ≡ l.j * k) × HoldBelow number ring.form ring.value m l.rows
    (λ e. (product_but m k (entry number ring.value m l.fn.known) (e % k) (entry number ring.value m l.fn.wanted
    (e / k)) % m
    * entry number ring.value m l.fn.weights (e % k)) % m) l.next

-- the products of this row, and its factors so far
abbrev pub invariant-known : goal.invariant-known
invariant-known g l =
    let ring = g.R.Reducer in let m = ring.modulus l.fn.r in let number = g.T.RingWord.number in
    let k = length l.fn.known in
    (l.next ≡ l.j * k + l.i) × HoldBelow number ring.form ring.value m l.rows
    (λ e. (product_but m k (entry number ring.value m l.fn.known) (e % k) (entry number ring.value m l.fn.wanted
    (e / k)) % m
    * entry number ring.value m l.fn.weights (e % k)) % m) l.next
