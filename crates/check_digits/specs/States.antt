-- Check digits by states: a word is read digit by digit, and each digit leads from a state to the next, as in a finite
-- automaton (Hopcroft and Ullman, Introduction to Automata Theory, Languages, and Computation, 1979, section 2.2). The
-- name `state_after` is this library's own, for what Verhoeff's and Damm's products have in common.
use Rattle.std.specs.Prelude.{ℕ, zero, suc}

-- the state after n digits, where the digit read at a time leads from a state to `step time state digit`
unfoldable pub state_after : (ℕ → ℕ → ℕ → ℕ) → ℕ → (ℕ → ℕ) → ℕ → ℕ
state_after step start digit zero = start
state_after step start digit (suc n) = step n (state_after step start digit n) (digit n)
