use Rattle.ring_codes.proofs.Names.{HoldBelow, entry}
use Rattle.ring_codes.proofs.erasure.powers.encode_by_transform.Given as goal

-- the symbols of the message, then zeros
abbrev pub invariant-symbols : goal.invariant-symbols
invariant-symbols g l =
    let ring = g.R.Reducer in let m = ring.modulus l.fn.r in let number = g.T.RingWord.number in
    HoldBelow number ring.form ring.value m l.word (entry number ring.value m l.fn.message) l.i
