use Rattle.std.proofs.Common.{◌≡◌, ℕ, ◌<◌, length}
use Rattle.num_modular.specs.Plans.{numbers}
use Rattle.ring_codes.specs.Erasure.{ArePlaces}
use Rattle.ring_erasures.specs.Erasures.{IsScattered}
use Rattle.ring_erasures.proofs.places.check_places.Given as goal

-- no place so far is marked
abbrev pub invariant-marks : goal.invariant-marks
invariant-marks g l = (p : ℕ) → p < l.i → numbers g.T.RingWord.number l.marks p ≡ 0

-- the places so far are right, and marked alone
abbrev pub invariant-places : goal.invariant-places
invariant-places g l =
    let marks = numbers g.T.RingWord.number in
    ArePlaces l.i (length l.marks) l.fn.lost
    × IsScattered l.i l.fn.lost (λ i. 1) (marks l.initial.marks) (marks l.marks)
