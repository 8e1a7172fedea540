-- Numbers with two remainders, for moduli that may have common divisors (Gauss, Disquisitiones Arithmeticae, articles 32
-- to 35; Ore, "The general Chinese remainder theorem", American Mathematical Monthly 59, 1952).
use Rattle.std.specs.Prelude.{◌≡◌, ℕ, ◌*◌, ◌/◌, ◌%◌, ◌<◌}
use Rattle.num_modular.specs.Divisors.{Coprime}

-- m and n are multiples of g by coprime numbers, and g and n are above 0
pub record AreParts (m n g : ℕ) : Type 0 where
  pub positive : 0 < g
  pub first : m ≡ g * (m / g)
  pub second : n ≡ g * (n / g)
  pub step : 0 < n / g
  pub coprime : Coprime (m / g) (n / g)

-- l is the least common multiple of m and n: a multiple of both, above 0, that divides every other
pub record IsLeastCommonMultiple (m n l : ℕ) : Type 0 where
  pub positive : 0 < l
  pub first : l % m ≡ 0
  pub second : l % n ≡ 0
  pub least : (k : ℕ) → k % m ≡ 0 → k % n ≡ 0 → k % l ≡ 0

-- x is congruent to a modulo m and to b modulo n
pub record IsCommon (a m b n x : ℕ) : Type 0 where
  pub first : x % m ≡ a % m
  pub second : x % n ≡ b % n

-- x is the number below l, the least common multiple, that is congruent to both: every number that is has the remainder x
-- modulo l
pub record IsCombination (a m b n x l : ℕ) : Type 0 where
  pub multiple : IsLeastCommonMultiple m n l
  pub below : x < l
  pub common : IsCommon a m b n x
  pub only : (y : ℕ) → IsCommon a m b n y → y % l ≡ x
