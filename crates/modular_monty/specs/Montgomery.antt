-- Montgomery's representation of residues (Handbook of Applied Cryptography, section 14.3.2). The words have w
-- bits, and b is the base 2^w.
use Rattle.std.specs.Prelude.{◌≡◌, ℕ, ◌-◌, ◌*◌, ◌%◌, ◌^◌, ◌<◌}
use Rattle.modular_word.specs.Reduction.{IsNegatedInverse}
use Rattle.modular_monty.specs.Values.{value_below, value_from}

-- modulo an odd m, the form of the value v: v times the base
abbrev pub montgomery_form : ℕ → ℕ → ℕ → ℕ
montgomery_form w m v = (v * 2 ^ w) % m

-- modulo an odd m, the value of the form f
abbrev pub montgomery_value : ℕ → ℕ → ℕ → ℕ
montgomery_value w m f = value_from (montgomery_form w) m f

-- what is stored of an odd modulus m: its negated inverse i, and the square of the base modulo m
pub record IsOddRing (w b m i square : ℕ) : Type 0 where
  pub base : b ≡ 2 ^ w
  pub odd : m % 2 ≡ 1
  pub fits : m < b
  pub inverse : IsNegatedInverse b m i
  pub is_square : square ≡ (b * b) % m

-- the negated inverse of an odd m
abbrev pub negated_inverse_of : ℕ → ℕ → ℕ
negated_inverse_of b m = value_below (λ i. (m * i) % b) b (b - 1)

-- m is an odd modulus, with its negated inverse and the square of the base
abbrev pub IsOddModulus : ℕ → ℕ → ℕ → Type 0
IsOddModulus w b m = IsOddRing w b m (negated_inverse_of b m) ((b * b) % m)
