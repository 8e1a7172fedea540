-- Lists of hashes, as words, that are written entry after entry.
use Rattle.std.proofs.Common.{◌≡◌, ℕ, ◌+◌, ◌<◌, ◌≤◌, List, length, get_or, slice_set}
use Rattle.std.proofs.lemmas.List.{map-id}
use Rattle.mersenne_hash.proofs.Written.{first_written, more_written}

-- the first entry
pub first_word : (xs : List ℕ) (x : ℕ) (v : ℕ → ℕ) → 0 < length xs → x ≡ v 0
    → (k : ℕ) → k ≤ 0 → get_or (slice_set xs 0 x) k 0 ≡ v k
first_word xs x v some is k none = simp map-id at (first_written (λ n. n) xs x v some is k none)

-- and the one after those up to i
pub more_words : (xs : List ℕ) (i x : ℕ) (v : ℕ → ℕ) → i + 1 < length xs
    → ((k : ℕ) → k ≤ i → get_or xs k 0 ≡ v k) → x ≡ v (i + 1)
    → (k : ℕ) → k ≤ i + 1 → get_or (slice_set xs (i + 1) x) k 0 ≡ v k
more_words xs i x v below held is k l =
    simp map-id at (more_written (λ n. n) xs i x v below (λ k l. rw map-id (held k l)) is k l)
