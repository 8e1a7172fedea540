-- The state of the inverse by a fixed number of halvings: two numbers that are reduced to a common divisor of x and m, each
-- with a factor of x (Kaliski, "The Montgomery inverse and its applications", 1995).
use Rattle.std.specs.Prelude.{◌≡◌, ℕ, not, ◌+◌, ◌*◌, ◌%◌, ◌^◌, ◌<◌, ◌==◌}
use Rattle.modular_prim.specs.Differences.{CongruentBySign}

-- a and b have at most n binary digits together
pub record HaveDigits (a b n : ℕ) : Type 0 where
  pub first : ℕ
  pub second : ℕ
  pub first_fits : a < 2 ^ first
  pub second_fits : b < 2 ^ second
  pub total : first + second ≡ n

-- modulo m, a * 2^k is u * x, and b * 2^k is -v * x; where `turns` is odd, the signs are the other way round. A number that
-- divides a and b divides m and x. Unless a is 0, both have at most `digits` binary digits together. The bits of `mask` are
-- all 1 where a is odd, and all 0 where it is even.
pub record IsHalvedPair (base m x k digits a b u v mask turns : ℕ) : Type 0 where
  pub below_odd : b % 2 ≡ 1
  pub mask_all : a % 2 ≡ 1 → mask + 1 ≡ base
  pub mask_none : a % 2 ≡ 0 → mask ≡ 0
  pub whole : 0 < a → a * v + b * u ≡ m
  pub above_factor : 0 < u
  pub below_factor : v < m
  pub above : CongruentBySign m (turns % 2 == 1) (a * 2 ^ k) (u * x)
  pub below : CongruentBySign m (not (turns % 2 == 1)) (b * 2 ^ k) (v * x)
  pub common : (d : ℕ) → a % d ≡ 0 → b % d ≡ 0 → (m % d ≡ 0) × (x % d ≡ 0)
  pub few : 0 < a → HaveDigits a b digits
