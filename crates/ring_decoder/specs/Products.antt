-- How many products the correction of a word takes that has n symbols, c of them lost, and t syndromes. A call of the reducer
-- for a product or a square counts, and so does each term of a dot product; what an inversion or a conversion takes doesn't.
use Rattle.std.specs.Prelude.{ℕ, ◌+◌, ◌-◌, ◌*◌, ◌/◌, ◌==◌, if◌then◌else◌, Option, None, Some}
use Rattle.std.specs.Int.{trailing_zeros, w64}

-- for the syndromes: with a root, where n = 2^z, a transform (n·z/2 + n - 1 + z) and n divisions by n; otherwise n for each
-- syndrome, and n for the symbols times their weights where there is no table of checks
abbrev pub syndrome_products : {T : Type 0} → Option T → ℕ → ℕ → ℕ → ℕ
syndrome_products (Some g) checks n t = n * trailing_zeros w64 n / 2 + 2 * n - 1 + trailing_zeros w64 n
syndrome_products None checks n t = if checks == 0 then n * (t + 1) else n * t

-- for N moments: c·(c + 3)/2 for the product of X - x over the lost points x, and c + 1 for each moment
abbrev pub moment_products : ℕ → ℕ → ℕ
moment_products N c = c * (c + 3) / 2 + N * (c + 1)

-- the most for a locator of N moments and its values at n points: after the moments, three products for each moment and one
-- for each point, for each of at most N/2 + 1 coefficients
abbrev pub locate_products : ℕ → ℕ → ℕ → ℕ
locate_products n N c = moment_products N c + (3 * N + n) * (N / 2 + 1)

-- the most for errors at q places (Forney's formula, q·(7·q + 13)/2) and the test that they have the t syndromes
abbrev pub solve_products : ℕ → ℕ → ℕ
solve_products q t = q * (7 * q + 13) / 2 + t * q

-- the most after the syndromes: for a locator, for errors at no more than t places, and to look for a number without an
-- inverse among n values
abbrev pub error_products : ℕ → ℕ → ℕ → ℕ
error_products n t c = locate_products n (t - c) c + solve_products t t + n
