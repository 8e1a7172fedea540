use Rattle.std.proofs.Common.{◌≢◌, ℕ, ◌<◌, slice_index}
use Rattle.ring_decoder.proofs.places.occurs.Given as goal

-- none of the places so far is the place
abbrev pub invariant-places : goal.invariant-places
invariant-places l = (j : ℕ) → j < l.j → slice_index l.places j ≢ l.place
