-- Montgomery's representation modulo any number, as forms of two parts (Koç, "Montgomery reduction with even
-- modulus"; Handbook of Applied Cryptography, section 14.3.2). The words have w bits, and b is the base 2^w.
use Rattle.std.specs.Prelude.{◌≡◌, ℕ, ◌+◌, ◌*◌, ◌/◌, ◌%◌, ◌^◌, ◌<◌}
use Rattle.std.specs.Int.Count.{count_trailing_zeros}
use Rattle.modular_monty.specs.Montgomery.{montgomery_form, IsOddRing}
use Rattle.modular_monty.specs.Values.{value_from}

-- the even part of m, a number of w bits: the greatest power of two that divides it
abbrev pub even_part : ℕ → ℕ → ℕ
even_part w m = 2 ^ count_trailing_zeros w m

-- the odd part of m: m divided by its even part
abbrev pub odd_part : ℕ → ℕ → ℕ
odd_part w m = m / even_part w m

-- modulo any m, the form of the value v. The base has no inverse modulo an even number; so v times the base is
-- taken modulo the odd part, above the bits of the power of two, and these bits are v modulo that power (Koç,
-- "Montgomery reduction with even modulus"; Handbook of Applied Cryptography, section 14.3.2)
unfoldable pub two_part_form : ℕ → ℕ → ℕ → ℕ
two_part_form w m v = montgomery_form w (odd_part w m) v * even_part w m + v % even_part w m

-- modulo any m, the value of the form f
abbrev pub two_part_value : ℕ → ℕ → ℕ → ℕ
two_part_value w m f = value_from (two_part_form w) m f

-- what is stored of m = k * 2^s for odd k: s, and what is stored of k
pub record IsTwoPartRing (w b m s k i square : ℕ) : Type 0 where
  pub odd : IsOddRing w b k i square
  pub twos : s ≡ count_trailing_zeros w m
  pub few : s < w
  pub whole : k * 2 ^ s ≡ m
  pub fits : m < b

-- what is precomputed of m: the negated inverse i of its odd part, and the square of the base modulo that part
abbrev pub IsComputedOnce : ℕ → ℕ → ℕ → ℕ → ℕ → Type 0
IsComputedOnce w b m i square = IsOddRing w b (odd_part w m) i square
