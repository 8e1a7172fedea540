-- The number of steps of a Jacobi symbol by halving and swapping (Cohen, "A Course in Computational Algebraic Number
-- Theory", algorithm 1.4.10: a step removes one factor 2 there, or swaps the two numbers and reduces one by the other).
use Rattle.std.specs.Prelude.{ℕ, zero, suc, ◌+◌, ◌/◌, ◌%◌, ◌==◌, if◌then◌else◌}

-- the number of steps from a over n, if there are at most `bound`
unfoldable pub steps_within : ℕ → ℕ → ℕ → ℕ
steps_within zero a n = 0
steps_within (suc bound) a n =
    if a == 0 then 0 else if a % 2 == 0 then 1 + steps_within bound (a / 2) n else 1 + steps_within bound (n % a) a

-- the number of halvings and swaps from a over n to 0, which is at most a
unfoldable pub jacobi_steps : ℕ → ℕ → ℕ
jacobi_steps a n = steps_within a a n
