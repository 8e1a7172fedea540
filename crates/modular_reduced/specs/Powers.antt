-- The number of products of a power by binary digits (Knuth, The Art of Computer Programming, volume 2, section
-- 4.6.3, algorithm A).
use Rattle.std.specs.Prelude.{ℕ, zero, suc, ◌+◌, ◌^◌, ◌==◌, nat_le, if◌then◌else◌, count_ones}

-- the number of binary digits of e, if there are at most `bound`
unfoldable pub digits_within : ℕ → ℕ → ℕ
digits_within zero e = 0
digits_within (suc k) e = if nat_le (2 ^ k) e then suc k else digits_within k e

-- the number of binary digits of e: the least k with e below 2^k
unfoldable pub digits : ℕ → ℕ
digits e = digits_within e e

-- a square for each digit and a product for each digit 1; none for the exponent 1, and one square for the exponent 2
unfoldable pub products : ℕ → ℕ
products e = if e == 1 then 0 else if e == 2 then 1 else digits e + count_ones e
