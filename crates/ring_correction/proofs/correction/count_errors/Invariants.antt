use Rattle.num_modular.specs.Callers.{◌≡◌, ◌≤◌, entry}
use Rattle.std.proofs.Common.{slice_index}
use Rattle.ring_codes.specs.Erasure.{distance}
use Rattle.ring_correction.proofs.correction.count_errors.Given as goal

-- the errors at the places so far
abbrev pub invariant-places : goal.invariant-places
invariant-places g l =
    let ring = g.R.Reducer in let m = ring.modulus l.fn._r in let number = g.T.RingWord.number in
    (l.errors ≡ distance l.i (entry number ring.value m l.fn.symbols)
    (λ j. entry number ring.value m l.fn.word (slice_index l.fn.places j))) × (l.errors ≤ l.i)
