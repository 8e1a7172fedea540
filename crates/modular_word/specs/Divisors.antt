-- Common divisors of whole numbers (Euclid, Elements, book VII). That d divides n is written n % d ≡ 0.
use Rattle.std.specs.Prelude.{◌≡◌, ℕ, zero, suc, ◌%◌, ◌≤◌, ◌==◌, ◌&&◌, if◌then◌else◌}

-- a and n have no common divisor but 1
pub record Coprime (a n : ℕ) : Type 0 where
  pub only_one : (d : ℕ) → a % d ≡ 0 → n % d ≡ 0 → d ≡ 1

-- g divides a and n, and no greater number does
pub record IsGreatestCommonDivisor (a n g : ℕ) : Type 0 where
  pub first : a % g ≡ 0
  pub second : n % g ≡ 0
  pub greatest : (d : ℕ) → a % d ≡ 0 → n % d ≡ 0 → d ≤ g

-- the greatest number from 1 to k that divides a and n
unfoldable pub gcd_up_to : ℕ → ℕ → ℕ → ℕ
gcd_up_to a n zero = 0
gcd_up_to a n (suc k) = if (a % suc k == 0) && (n % suc k == 0) then suc k else gcd_up_to a n k

-- the greatest common divisor of a and n, for n that is at least 1
abbrev pub gcd : ℕ → ℕ → ℕ
gcd a n = gcd_up_to a n n
