use Rattle.ring_codes.proofs.Names.{◌≡◌, ◌≢◌, ◌<◌, ℕ, length, get_or, slice_index}
use Rattle.ring_codes.proofs.erasure.places.choose_points.Given as goal

-- the places so far have points, no two are the same, and their points are chosen
abbrev pub invariant-places : goal.invariant-places
invariant-places g l =
    ((i : ℕ) → i < l.i → slice_index l.fn.places i < length l.fn.points)
    × ((i j : ℕ) → i < j → j < l.i → slice_index l.fn.places i ≢ slice_index l.fn.places j)
    × ((i : ℕ) (d : g.row.T.Denot) → i < l.i → get_or l.chosen i d ≡ get_or l.fn.points (slice_index l.fn.places i) d)
