-- Locators of power sums: the characteristic polynomials of linear recurrences that the sums obey (Massey, "Shift-register
-- synthesis and BCH decoding", IEEE Transactions on Information Theory 15, 1969; over the integers modulo m Reeds and
-- Sloane, "Shift-register synthesis (modulo m)", SIAM Journal on Computing 14, 1985).
use Rattle.std.specs.Prelude.{◌≡◌, ◌≢◌, ℕ, ◌+◌, ◌*◌, ◌^◌, ◌%◌, ◌<◌, ◌≤◌}
use Rattle.num_modular.specs.Congruence.{Congruent}
use Rattle.num_modular.specs.Sums.{sum_below}
use Rattle.ring_decoder.specs.PowerSums.{ArePowerSums, hamming_weight}

-- the first N numbers t obey modulo m the linear recurrence of order L with the coefficients s 0, .., s L
pub record IsRecurrence (m N L : ℕ) (s t : ℕ → ℕ) : Type 0 where
  pub sum : (h : ℕ) → h + L < N → Congruent m (sum_below (L + 1) (λ l. s l * t (h + l))) 0

-- of all weights with the first N power sums t, at least L aren't 0
pub record NeedWeights (m N L : ℕ) (t : ℕ → ℕ) : Type 0 where
  pub each : (n : ℕ) (x w : ℕ → ℕ) → ArePowerSums m N n x w t → L ≤ hamming_weight m n w

-- of all weights with the first N power sums t, more than N/2 aren't 0
pub record NeedManyWeights (m N : ℕ) (t : ℕ → ℕ) : Type 0 where
  pub each : (n : ℕ) (x w : ℕ → ℕ) → ArePowerSums m N n x w t → N < 2 * hamming_weight m n w

-- s is the polynomial of a recurrence whose order L is at most N/2, and no more than the number of weights needed
pub record IsLocator (m N L : ℕ) (s t : ℕ → ℕ) : Type 0 where
  pub short : 2 * L ≤ N
  pub behind : (l : ℕ) → L < l → Congruent m (s l) 0
  pub recurrence : IsRecurrence m N L s t
  pub least : NeedWeights m N L t

-- the first N numbers t are u·x^h, u not being 0: the power sums of one point
pub record IsGeometric (m N u x : ℕ) (t : ℕ → ℕ) : Type 0 where
  pub nonzero : u % m ≢ 0
  pub each : (h : ℕ) → h < N → Congruent m (t h) (u * x ^ h)

-- s is u·(x - X)
pub record IsLinear (m u x L : ℕ) (s : ℕ → ℕ) : Type 0 where
  pub degree : L ≡ 1
  pub constant : Congruent m (s 0) (u * x)
  pub leading : Congruent m (s 1 + u) 0
