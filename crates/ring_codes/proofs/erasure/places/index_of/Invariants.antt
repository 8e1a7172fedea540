use Rattle.ring_codes.proofs.Names.{◌≢◌, ◌<◌, ℕ, slice_index}
use Rattle.ring_codes.proofs.erasure.places.index_of.Given as goal

-- the place isn't among those so far
abbrev pub invariant-indices : goal.invariant-indices
invariant-indices l = (j : ℕ) → j < l.j → slice_index l.places j ≢ l.place
