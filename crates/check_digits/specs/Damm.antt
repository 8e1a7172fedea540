-- Damm's check digit (H. M. Damm, Total anti-symmetrische Quasigruppen, dissertation, Marburg 2004).
use Rattle.std.specs.Prelude.{◌≡◌, ℕ, ◌+◌, ◌*◌, ◌≤◌, List, [], ◌∷◌, All, length, slice_index}
use Rattle.check_digits.specs.States.{state_after}

-- his quasigroup of order 10, row by row
abbrev pub damm_table : List ℕ
damm_table = 0 ∷ 3 ∷ 1 ∷ 7 ∷ 5 ∷ 9 ∷ 8 ∷ 6 ∷ 4 ∷ 2
    ∷ 7 ∷ 0 ∷ 9 ∷ 2 ∷ 1 ∷ 5 ∷ 4 ∷ 8 ∷ 6 ∷ 3
    ∷ 4 ∷ 2 ∷ 0 ∷ 6 ∷ 8 ∷ 7 ∷ 1 ∷ 3 ∷ 5 ∷ 9
    ∷ 1 ∷ 7 ∷ 5 ∷ 0 ∷ 9 ∷ 8 ∷ 3 ∷ 4 ∷ 2 ∷ 6
    ∷ 6 ∷ 1 ∷ 2 ∷ 3 ∷ 0 ∷ 4 ∷ 5 ∷ 9 ∷ 7 ∷ 8
    ∷ 3 ∷ 6 ∷ 7 ∷ 4 ∷ 2 ∷ 0 ∷ 9 ∷ 5 ∷ 8 ∷ 1
    ∷ 5 ∷ 8 ∷ 6 ∷ 9 ∷ 7 ∷ 2 ∷ 0 ∷ 1 ∷ 3 ∷ 4
    ∷ 8 ∷ 9 ∷ 4 ∷ 5 ∷ 3 ∷ 6 ∷ 2 ∷ 0 ∷ 1 ∷ 7
    ∷ 9 ∷ 4 ∷ 3 ∷ 8 ∷ 6 ∷ 1 ∷ 7 ∷ 2 ∷ 0 ∷ 5
    ∷ 2 ∷ 5 ∷ 8 ∷ 1 ∷ 4 ∷ 3 ∷ 6 ∷ 7 ∷ 9 ∷ 0 ∷ []

-- the element in row a and column b
abbrev pub damm_product : ℕ → ℕ → ℕ
damm_product a b = slice_index damm_table (10 * a + b)

-- the product of the digits from the left, from 0 on
abbrev pub damm_check : List ℕ → ℕ
damm_check word = state_after (λ i c d. damm_product c d) 0 (slice_index word) (length word)

-- the word has a check digit, its symbols are digits, and the product is 0
pub record IsDamm (word : List ℕ) : Type 0 where
  pub least : 1 ≤ length word
  pub digits : All (λ d. d ≤ 9) word
  pub product : damm_check word ≡ 0
