-- Hashes of texts at several bases (Dietzfelbinger, Gil, Matias and Pippenger, "Polynomial hash functions are
-- reliable", 1992).
use Rattle.std.specs.Prelude.{◌≡◌, ◌≢◌, ℕ, ◌+◌, ◌-◌, ◌*◌, ◌%◌, ◌<◌, ◌≤◌, List, ◌∷◌, length, slice_index, slice_range}
use Rattle.std.specs.Prelude.{All}
use Rattle.num_modular.specs.Sums.{polynomial_highest_first}
use Rattle.num_modular.specs.Mersenne.{mersenne}

-- the hash of a text at a base: the value of its polynomial there, modulo 2^61 - 1
abbrev pub hash_of : List ℕ → ℕ → ℕ
hash_of text base = polynomial_highest_first (length text) (slice_index text) base % mersenne 61 1

-- the n bases x 0, .., x (n - 1) are different modulo 2^61 - 1
pub record AreApart (n : ℕ) (x : ℕ → ℕ) : Type 0 where
  pub apart : (i j : ℕ) → i < n → j < n → i ≢ j → x i % mersenne 61 1 ≢ x j % mersenne 61 1

-- two texts of n symbols below 2^61 - 1 that have the same hash at n different bases are equal: so fewer than n of
-- the bases 0 to 2^61 - 2 give two different texts the same hash
abbrev pub FewCollisions : Type 0
FewCollisions = (s t : List ℕ) (x : ℕ → ℕ) → length s ≡ length t → AreApart (length s) x
    → All (λ c. c < mersenne 61 1) s → All (λ c. c < mersenne 61 1) t
    → ((i : ℕ) → i < length s → hash_of s (x i) ≡ hash_of t (x i)) → s ≡ t

-- two texts of at most n symbols below 2^61 - 1 are equal if, each behind a symbol 1, they have the same hash at n + 1
-- different bases: so at most n bases give two different texts, of whatever lengths, the same hash
abbrev pub FewCollisionsOfAnyLengths : Type 0
FewCollisionsOfAnyLengths = (s t : List ℕ) (n : ℕ) (x : ℕ → ℕ) → length s ≤ n → length t ≤ n → AreApart (n + 1) x
    → All (λ c. c < mersenne 61 1) s → All (λ c. c < mersenne 61 1) t
    → ((i : ℕ) → i < n + 1 → hash_of (1 ∷ s) (x i) ≡ hash_of (1 ∷ t) (x i)) → s ≡ t

-- at this position stands a part of the text that has the pattern's hash at the base, but isn't the pattern
pub record IsFalseHit (text pattern : List ℕ) (base at : ℕ) : Type 0 where
  pub within : at + length pattern ≤ length text
  pub same_hash : hash_of (slice_range text at (at + length pattern)) base ≡ hash_of pattern base
  pub other : slice_range text at (at + length pattern) ≢ pattern

-- a search in a text of N symbols below 2^61 - 1 for a pattern of L meets such a part at no more than
-- (N - L + 1)·(L - 1) different bases: for each of the N - L + 1 positions, at fewer than L (Karp and Rabin,
-- "Efficient randomized pattern-matching algorithms", 1987, bound the same union over the positions)
abbrev pub FewFalseHits : Type 0
FewFalseHits = (text pattern : List ℕ) (n : ℕ) (x at : ℕ → ℕ) → AreApart n x
    → All (λ c. c < mersenne 61 1) text → All (λ c. c < mersenne 61 1) pattern
    → ((i : ℕ) → i < n → IsFalseHit text pattern (x i) (at i))
    → n ≤ (length text - length pattern + 1) * (length pattern - 1)
