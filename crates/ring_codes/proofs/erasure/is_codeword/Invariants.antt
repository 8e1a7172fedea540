use Rattle.ring_codes.proofs.Names.{◌≡◌, ◌%◌, ◌<◌, ℕ, length, entry, polynomial_at}
use Rattle.ring_codes.proofs.erasure.is_codeword.Given as goal

-- the symbols so far are the message's
abbrev pub invariant-places : goal.invariant-places
invariant-places g l =
    let ring = g.R.Reducer in let m = ring.modulus l.fn.r in let number = g.T.RingWord.number in
    (k : ℕ) → k < l.i → entry number ring.value m l.fn.word k
    ≡ polynomial_at (length l.message) (entry number ring.value m l.message)
    (entry number ring.value m l.fn.points k) % m
