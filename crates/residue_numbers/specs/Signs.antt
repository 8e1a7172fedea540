-- Negative numbers in a residue system (Szabo and Tanaka, Residue Arithmetic and Its Applications to Computer Technology,
-- 1967).
use Rattle.std.specs.Prelude.{ℕ, ◌*◌, ℤ, pos, ◌-ℤ◌, nat_lt, if◌then◌else◌}

-- the integer that a number below the range represents: itself below half of the range, and itself less the range from
-- half of it on
abbrev pub signed_number : ℕ → ℕ → ℤ
signed_number range x = if nat_lt (2 * x) range then pos x else pos x -ℤ pos range
