-- Forms that are shifted to the top of a word of w bits, as a normalized divisor is (Möller and Granlund, "Improved
-- division by invariant integers", section 1).
use Rattle.std.specs.Prelude.{◌≡◌, ℕ, ◌*◌, ◌/◌, ◌^◌, ◌<◌}
use Rattle.std.specs.Int.Count.{count_leading_zeros}

-- the power of two that shifts the highest bit of m to the top: 2^(w-1) ≤ m * scale w m < 2^w
abbrev pub scale : ℕ → ℕ → ℕ
scale w m = 2 ^ count_leading_zeros w m

-- modulo m the form of v is v times that power
abbrev pub scaled_form : ℕ → ℕ → ℕ → ℕ
scaled_form w m v = v * scale w m

-- modulo m the value of f is f divided by that power
abbrev pub scaled_value : ℕ → ℕ → ℕ → ℕ
scaled_value w m f = f / scale w m

-- the divisor d is m shifted by s bits
pub record IsScaling (w m d s : ℕ) : Type 0 where
  pub positive : 0 < m
  pub fits : d < 2 ^ w
  pub inside : s < w
  pub zeros : s ≡ count_leading_zeros w m
  pub scaled : d ≡ m * 2 ^ s
