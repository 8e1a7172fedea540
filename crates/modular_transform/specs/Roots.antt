-- The candidates for roots of transforms of n entries modulo m: powers of small numbers to the exponent (m -
-- 1) / n. For a prime m each root of unity of order n is such a power of a primitive root (Pollard, "The fast Fourier
-- transform in a finite field", section 3). The names are the library's own words.
use Rattle.std.specs.Prelude.{ℕ, ◌-◌, ◌/◌, ◌%◌, ◌^◌, ◌<◌, ◌≤◌}
use Rattle.modular_transform.specs.Transforms.{Suits}

-- the candidate that the number x gives
abbrev pub root_by : ℕ → ℕ → ℕ → ℕ
root_by m n x = x ^ ((m - 1) / n) % m

-- x is the least number that is at least 2 and gives a root that suits n
pub record IsFirstBase (m n x : ℕ) : Type 0 where
  pub from : 2 ≤ x
  pub suits : Suits m (root_by m n x) n
  pub least : (y : ℕ) → 2 ≤ y → y < x → Suits m (root_by m n y) n → ⊥
