-- The hashes of a text's beginnings, by which that of a part is computed (Karp and Rabin, "Efficient randomized
-- pattern-matching algorithms", 1987). The names are the library's own words.
use Rattle.std.specs.Prelude.{◌≡◌, ℕ, ◌+◌, ◌*◌, ◌%◌, ◌^◌, ◌<◌, ◌≤◌, List, length, slice_index}
use Rattle.num_modular.specs.Mersenne.{mersenne}
use Rattle.num_modular.specs.Sums.{polynomial_highest_first}

-- there is one entry more than the text has bytes in both lists
pub record HavePrefixRoom (text hashes powers : ℕ) : Type 0 where
  pub hashes_room : hashes ≡ text + 1
  pub powers_room : powers ≡ text + 1

-- entry k of the lists is the hash of the first k bytes at the base x, and the power of x to k, modulo 2^61 - 1
pub record ArePrefixHashes (x : ℕ) (text hashes powers : List ℕ) : Type 0 where
  pub hashed : (k : ℕ) → k ≤ length text → slice_index hashes k
      ≡ polynomial_highest_first k (slice_index text) x % mersenne 61 1
  pub raised : (k : ℕ) → k ≤ length text → slice_index powers k ≡ x ^ k % mersenne 61 1

-- the part from `from` up to `to` is within the lists
pub record IsPartOf (hashes powers from to : ℕ) : Type 0 where
  pub ordered : from ≤ to
  pub within : to < hashes
  pub raised : to < powers

-- h is whole less start times power, modulo 2^61 - 1
pub record IsPartHash (whole start power h : ℕ) : Type 0 where
  pub below : h < mersenne 61 1
  pub sum : (h + start * power) % mersenne 61 1 ≡ whole % mersenne 61 1
