-- Patterns of one length that stand one after the other.
use Rattle.std.proofs.Common.{◌≡◌, ℕ, ◌+◌, ◌*◌, ◌<◌, ◌≤◌, List, length, arith, Option, MatchOption}
use Rattle.std.specs.Option.{unwrap_or}
use Rattle.std.proofs.Math.Nat.{mul-le-mul_left}
use Rattle.mersenne_hash.specs.Patterns.{pattern_of}
use Rattle.mersenne_hash.proofs.FalseHits.{part_length}

-- pattern k is within the list
pub pattern_within : (symbols : List ℕ) (n count k : ℕ) → length symbols ≡ count * n → k < count
    → k * n + n ≤ length symbols
pattern_within symbols n count k whole l = let f = mul-le-mul_left n l in omega (arith, f, whole)

-- and has their length
pub pattern_length : (symbols : List ℕ) (n count k : ℕ) → length symbols ≡ count * n → k < count
    → length (pattern_of symbols n k) ≡ n
pattern_length symbols n count k whole l = part_length symbols n (k * n) (pattern_within symbols n count k whole l)

-- the number that was found, or the count
pub number_or_count : (found : Option ℕ) (n : ℕ) (Q P : ℕ → Type 0) (r : ℕ) → MatchOption found (P n) (λ k. Q k × P k)
    → r ≡ unwrap_or found n → P r
number_or_count found n Q P r h e = grind arith
