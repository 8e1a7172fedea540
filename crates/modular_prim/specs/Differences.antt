-- The state of the inverse by subtraction: two numbers that are reduced to a common divisor of x and m, each with a
-- factor of x (Kaliski, "The Montgomery inverse and its applications", 1995).
use Rattle.std.specs.Prelude.{◌≡◌, ℕ, Bool, true, false, not, ◌+◌, ◌*◌, ◌%◌, ◌^◌, ◌<◌}
use Rattle.modular_word.specs.Congruence.{Congruent}

-- modulo m, p is congruent to q, or to -q where the sign is minus
abbrev pub CongruentBySign : ℕ → Bool → ℕ → ℕ → Type 0
CongruentBySign m true p q = Congruent m (p + q) 0
CongruentBySign m false p q = Congruent m p q

-- modulo m, a * 2^k is u * x, and b * 2^k is -v * x; where `minus` is true, the signs are the other way round. A
-- number that divides a and b divides m and x.
pub record IsDifferencePair (m x a b u v k : ℕ) (minus : Bool) : Type 0 where
  pub whole : a * v + b * u ≡ m
  pub above : CongruentBySign m minus (a * 2 ^ k) (u * x)
  pub below : CongruentBySign m (not minus) (b * 2 ^ k) (v * x)
  pub common : (d : ℕ) → a % d ≡ 0 → b % d ≡ 0 → (m % d ≡ 0) × (x % d ≡ 0)

-- neither number is 0, only the factor of the greater one may be; sums and shifts fit words
pub record PairFits (base a b u v k : ℕ) : Type 0 where
  pub above_some : 0 < a
  pub below_some : 0 < b
  pub above_factor : u ≡ 0 → b < a
  pub below_factor : v ≡ 0 → a < b
  pub factors : a * v + b * u < base
  pub twos : a * b * 2 ^ k < base * base
