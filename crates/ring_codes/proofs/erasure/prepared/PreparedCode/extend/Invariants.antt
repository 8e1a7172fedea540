use Rattle.ring_codes.proofs.Names.{◌+◌, ◌*◌, ◌%◌, length, HoldBelow, entry, sum_below}
use Rattle.ring_codes.proofs.erasure.prepared.PreparedCode.extend.Given as goal

-- the symbols at the wanted points so far
abbrev pub invariant-wanted : goal.invariant-wanted
invariant-wanted g l =
    let ring = g.R.Reducer in let m = ring.modulus l.fn.self.ring.now in let number = g.T.RingWord.number in
    let k = length l.fn.symbols in
    HoldBelow number ring.form ring.value m l.others
    (λ j. sum_below k (λ i. entry number ring.value m l.fn.self.rows.now (j * k + i)
    * entry number ring.value m l.fn.symbols i) % m) l.j
