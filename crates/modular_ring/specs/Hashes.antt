-- Polynomial hashes and searches (Karp and Rabin, "Efficient randomized pattern-matching algorithms",
-- IBM Journal of Research and Development 31, 1987).
use Rattle.std.specs.Prelude.{◌≡◌, ℕ, ◌+◌, ◌%◌, ◌<◌, ◌≤◌, List, length, slice_index, slice_range}
use Rattle.std.specs.Prelude.{Option, MatchOption}
use Rattle.modular_folds.specs.Mersenne.{mersenne}
use Rattle.modular_word.specs.Sums.{polynomial_highest_first}

-- the hash at a base of the n symbols of a text from the position i on
abbrev pub window_hash : List ℕ → ℕ → ℕ → ℕ → ℕ
window_hash text n base i = let window = slice_range text i (i + n) in
    polynomial_highest_first (length window) (slice_index window) base % mersenne 61 1

-- the pattern occurs in the text at the position i
pub record StandsAt (text pattern : List ℕ) (i : ℕ) : Type 0 where
  pub within : i + length pattern ≤ length text
  pub same : slice_range text i (i + length pattern) ≡ pattern

-- i is the first position where the pattern occurs
pub record IsFirst (text pattern : List ℕ) (i : ℕ) : Type 0 where
  pub stands : StandsAt text pattern i
  pub first : (j : ℕ) → j < i → StandsAt text pattern j → ⊥

-- the result of a search: the first position; `None` exactly where there is none
abbrev pub IsSearch : List ℕ → List ℕ → Option ℕ → Type 0
IsSearch text pattern found = MatchOption found ((i : ℕ) → StandsAt text pattern i → ⊥) (IsFirst text pattern)

-- the result of a search among the positions from `from` on and before `to`
abbrev pub IsSearchBetween : List ℕ → List ℕ → ℕ → ℕ → Option ℕ → Type 0
IsSearchBetween text pattern from to found =
    MatchOption found ((i : ℕ) → from ≤ i → i < to → StandsAt text pattern i → ⊥)
    (λ i. (from ≤ i) × (i < to) × StandsAt text pattern i × ((j : ℕ) → from ≤ j → j < i → StandsAt text pattern j → ⊥))
