-- What the top bit of a difference tells, in words of which there are b, where 2 * m fits.
use Rattle.std.proofs.Common.{◌≡◌, ℕ, ◌+◌, ◌*◌, ◌%◌, ◌<◌, ◌≤◌, arith}
use Rattle.std.proofs.Math.Nat.{mod-eq_of_lt, add-mul-mod_self_right}
use Rattle.modular_word.proofs.Congruence.{mod_cancel}
use Rattle.modular_prim.proofs.ResidueSteps.{negative_difference_wraps, nonnegative_difference_is_exact}

-- of x less m
pub record BySign (b m x less : ℕ) : Type 0 where
  pub taken : 2 * less < b → less + m ≡ x
  pub left : b ≤ 2 * less → x < m

pub by_sign : (b m x less : ℕ) → 2 * m ≤ b → x < 2 * m → less < b → (less + m) % b ≡ x → BySign b m x less
by_sign b m x less room below fits is = grind (arith, mod-eq_of_lt, add-mul-mod_self_right, mod_cancel)

-- of x less y, both below m
pub record DifferenceBySign (b x y less : ℕ) : Type 0 where
  pub taken : 2 * less < b → less + y ≡ x
  pub left : b ≤ 2 * less → (less + y ≡ x + b) × (x < y)

pub difference_by_sign : (b m x y less : ℕ) → 2 * m ≤ b → x < m → y < m → less < b → (less + y) % b ≡ x
    → DifferenceBySign b x y less
difference_by_sign b m x y less room x_below y_below fits is =
    grind (arith, negative_difference_wraps, nonnegative_difference_is_exact)
