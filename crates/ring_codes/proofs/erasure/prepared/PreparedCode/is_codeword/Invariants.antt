use Rattle.ring_codes.proofs.Names.{◌≡◌, ◌+◌, ◌*◌, ◌%◌, ◌<◌, ℕ, length, entry, sum_below}
use Rattle.ring_codes.proofs.erasure.prepared.PreparedCode.is_codeword.Given as goal

-- the symbols at the wanted points so far are those of the rows
abbrev pub invariant-wanted : goal.invariant-wanted
invariant-wanted g l =
    let ring = g.R.Reducer in let m = ring.modulus l.fn.self.ring.now in let number = g.T.RingWord.number in
    let k = length l.fn.symbols in
    (j : ℕ) → j < l.j → entry number ring.value m l.fn.others j
    ≡ sum_below k (λ i. entry number ring.value m l.fn.self.rows.now (j * k + i)
    * entry number ring.value m l.fn.symbols i) % m
