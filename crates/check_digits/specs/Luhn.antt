-- Luhn's check digit (H. P. Luhn, "Computer for verifying numbers", US patent 2,950,048, 1960; ISO/IEC 7812-1, annex B).
-- Places are counted from the right; that of the check digit is 0.
use Rattle.std.specs.Prelude.{◌≡◌, ◌≢◌, ◌↔◌, ◌⊎◌, ℕ, suc, ◌+◌, ◌-◌, ◌*◌, ◌/◌, ◌%◌, ◌<◌, ◌≤◌, ◌==◌, if◌then◌else◌}
use Rattle.std.specs.Prelude.{List, All, length, slice_index}
use Rattle.num_modular.specs.Sums.{sum_below}
use Rattle.check_digits.specs.Codes.{exchanged}

-- what a digit counts: every second one is doubled, and the digits of the double are added
abbrev pub luhn_value : ℕ → ℕ → ℕ
luhn_value place digit = if place % 2 == 0 then digit else 2 * digit / 10 + 2 * digit % 10

-- the sum of what the digits count at the first of so many places
abbrev pub luhn_sum : ℕ → List ℕ → ℕ
luhn_sum places word = sum_below (length word) (λ i. luhn_value (places - 1 - i) (slice_index word i))

-- the word has a check digit, its symbols are digits, and the sum is a multiple of 10
pub record IsLuhn (word : List ℕ) : Type 0 where
  pub least : 1 ≤ length word
  pub digits : All (λ d. d ≤ 9) word
  pub multiple : luhn_sum (length word) word % 10 ≡ 0

-- the exchanges of two neighbours that differ that aren't detected are those of 0 and 9, in either order
abbrev pub LuhnFindsAllButNines : Type 0
LuhnFindsAllButNines = (word : List ℕ) (i : ℕ) → IsLuhn word → suc i < length word
    → slice_index word i ≢ slice_index word (suc i)
    → IsLuhn (exchanged word i)
    ↔ (((slice_index word i ≡ 0) × (slice_index word (suc i) ≡ 9))
    ⊎ ((slice_index word i ≡ 9) × (slice_index word (suc i) ≡ 0)))
