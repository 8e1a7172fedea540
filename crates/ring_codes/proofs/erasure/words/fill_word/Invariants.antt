use Rattle.ring_codes.proofs.Names.{◌%◌, length, HoldBelow, entry, polynomial_at}
use Rattle.ring_codes.proofs.erasure.words.fill_word.Given as goal

-- the symbols at the points so far
abbrev pub invariant-points : goal.invariant-points
invariant-points g l =
    let ring = g.R.Reducer in let m = ring.modulus l.fn.r in let number = g.T.RingWord.number in
    HoldBelow number ring.form ring.value m l.word
    (λ i. polynomial_at (length l.fn.message) (entry number ring.value m l.fn.message)
    (entry number ring.value m l.fn.points i) % m) l.i
