use Rattle.std.proofs.Common.{◌≢◌, ℕ, ◌<◌, slice_index}
use Rattle.ring_decoder.proofs.places.check_lost.Given as goal

-- the places so far are below n, and no two are the same
abbrev pub invariant-places : goal.invariant-places
invariant-places l =
    ((i : ℕ) → i < l.i → slice_index l.fn.lost i < l.fn.n)
    × ((i j : ℕ) → i < j → j < l.i → slice_index l.fn.lost i ≢ slice_index l.fn.lost j)
