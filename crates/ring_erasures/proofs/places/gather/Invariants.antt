use Rattle.num_modular.specs.Callers.{HoldBelow, entry}
use Rattle.std.proofs.Common.{slice_index}
use Rattle.ring_erasures.proofs.places.gather.Given as goal

-- the numbers at the places so far
abbrev pub invariant-places : goal.invariant-places
invariant-places g l =
    let ring = g.R.Reducer in let m = ring.modulus l.fn._r in let number = g.T.RingWord.number in
    HoldBelow number ring.form ring.value m l.numbers
    (λ i. entry number ring.value m l.fn.list (slice_index l.fn.lost i)) l.l
