-- Folds: reduction modulo a number that is near a power of two, with no division.
-- (Handbook of Applied Cryptography, section 14.3.4, algorithm 14.47;
-- Crandall and Pomerance, Prime Numbers, section 9.2.3.)
use Rattle.std.specs.Prelude.{◌≡◌, ℕ, zero, suc, ◌+◌, ◌-◌, ◌*◌, ◌/◌, ◌%◌, ◌^◌, ◌<◌, ◌≤◌, nat_lt, if◌then◌else◌}

-- one fold of v at the bit p by c: hi * c + lo, where v is hi * 2^p + lo and lo is below 2^p
abbrev pub fold_of : ℕ → ℕ → ℕ → ℕ
fold_of p c v = v / 2 ^ p * c + v % 2 ^ p

-- folds at the bit p by c reduce words of w bits modulo m: 2^p is m + c, and m is more than half of it
pub record IsFolding (w p c m : ℕ) : Type 0 where
  pub fits : p ≤ w
  pub some : 0 < c
  pub whole : m + c ≡ 2 ^ p
  pub half : c < m

-- the number of folds that make v less than 2^p, if there are at most `bound`: none where it is, else one more than
-- for hi * c + lo
unfoldable pub folds_within : ℕ → ℕ → ℕ → ℕ → ℕ
folds_within zero p c v = 0
folds_within (suc bound) p c v = if nat_lt v (2 ^ p) then 0 else 1 + folds_within bound p c (fold_of p c v)

-- the number of folds that make v less than 2^p, which is at most v where c is below 2^p (the turns of the loop of
-- algorithm 14.47)
unfoldable pub folds : ℕ → ℕ → ℕ → ℕ
folds p c v = folds_within v p c v

-- bounds on the number n of folds of v (the library's own)
pub record IsFewFolds (p c v n : ℕ) : Type 0 where
  pub at_most : (w : ℕ) → p ≤ w → v < 2 ^ w → n ≤ w - p + 2
  pub two : c ≡ 1 → v < 2 ^ (2 * p) → n ≤ 2
  pub three : c < 2 ^ (p / 2) → v < 2 ^ (2 * p) → n ≤ 3
