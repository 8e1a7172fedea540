-- Searches for several patterns of one length (Karp and Rabin, "Efficient randomized pattern-matching algorithms", 1987,
-- section 4).
use Rattle.std.specs.Prelude.{ℕ, ◌+◌, ◌*◌, ◌<◌, ◌≤◌, List, slice_range}
use Rattle.num_modular.specs.Hashes.{StandsAt}

-- pattern k of those of size n that stand one after the other in a list
abbrev pub pattern_of : List ℕ → ℕ → ℕ → List ℕ
pattern_of patterns n k = slice_range patterns (k * n) (k * n + n)

-- k is the first of the patterns that occurs in the text at a position; or their count, where none does
pub record IsFirstPattern (text patterns : List ℕ) (n count at k : ℕ) : Type 0 where
  pub most : k ≤ count
  pub stands : k < count → StandsAt text (pattern_of patterns n k) at
  pub first : (j : ℕ) → j < k → StandsAt text (pattern_of patterns n j) at → ⊥

-- i is the first position from a place on where one of the patterns occurs, and k the first of them that does
pub record IsNextPattern (text patterns : List ℕ) (n count from i k : ℕ) : Type 0 where
  pub behind : from ≤ i
  pub one : k < count
  pub pattern : IsFirstPattern text patterns n count i k
  pub first : (j h : ℕ) → from ≤ j → j < i → h < count → StandsAt text (pattern_of patterns n h) j → ⊥
