-- The number of divisions of Euclid's algorithm (Knuth, The Art of Computer Programming, volume 2, section 4.5.3).
use Rattle.std.specs.Prelude.{ℕ, zero, suc, ◌+◌, ◌%◌, ◌==◌, nat_le, if◌then◌else◌}

-- the number of divisions for u and v, if there are at most `bound`
unfoldable pub divisions_within : ℕ → ℕ → ℕ → ℕ
divisions_within zero u v = 0
divisions_within (suc bound) u v = if v == 0 then 0 else 1 + divisions_within bound v (u % v)

-- the number of divisions for u and v until the second number is 0, which is at most v
unfoldable pub divisions : ℕ → ℕ → ℕ
divisions u v = divisions_within v u v

-- the number of divisions for the inverse of a modulo m: one more where a is reduced first
unfoldable pub inverse_divisions : ℕ → ℕ → ℕ
inverse_divisions a m = if nat_le m a then 1 + divisions m (a % m) else divisions m (a % m)
