-- Searches from a place on (Karp and Rabin, "Efficient randomized pattern-matching algorithms", 1987).
use Rattle.std.specs.Prelude.{ℕ, ◌<◌, ◌≤◌, List, Option, MatchOption}
use Rattle.num_modular.specs.Hashes.{StandsAt}

-- i is the first position from a place on where the pattern occurs
pub record IsNext (text pattern : List ℕ) (from i : ℕ) : Type 0 where
  pub behind : from ≤ i
  pub stands : StandsAt text pattern i
  pub first : (j : ℕ) → from ≤ j → j < i → StandsAt text pattern j → ⊥

-- the result of such a search: the first position; `None` exactly where there is none
abbrev pub IsSearchFrom : List ℕ → List ℕ → ℕ → Option ℕ → Type 0
IsSearchFrom text pattern from found =
    MatchOption found ((i : ℕ) → from ≤ i → StandsAt text pattern i → ⊥) (IsNext text pattern from)
