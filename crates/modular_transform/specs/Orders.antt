-- Permutations of lists.
use Rattle.std.specs.Prelude.{◌≡◌, ℕ, suc, zero, ◌+◌, ◌-◌, ◌*◌, ◌/◌, ◌%◌, ◌^◌, ◌<◌, List, length, slice_index_or}

-- the entry at index i of the new list is that at index s i of the old one
pub record IsReordered {T : Type 0} (s : ℕ → ℕ) (old new : List T) : Type 0 where
  pub each : (i : ℕ) (d : T) → i < length old → slice_index_or new i d ≡ slice_index_or old (s i) d

-- the lowest t bits of p in the opposite order (Knuth, The Art of Computer Programming, volume 2, section 4.6.4)
unfoldable pub bits_reversed : ℕ → ℕ → ℕ
bits_reversed zero p = 0
bits_reversed (suc t) p = bits_reversed t (p / 2) + (p % 2) * 2 ^ t

-- where entry k of n moves when all entries but the first are reversed: 0 stays, and 1 changes places with n - 1
-- (the library's own)
abbrev pub mirrored : ℕ → ℕ → ℕ
mirrored n k = (n - k) % n
