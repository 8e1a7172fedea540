-- Inverses modulo m (Gauss, Disquisitiones Arithmeticae, article 31).
use Rattle.std.specs.Prelude.{◌≡◌, ℕ, suc, zero, ◌*◌, ◌%◌, ◌<◌, Option, Some, None, ◌==◌, if◌then◌else◌, MatchOption}

-- x is the inverse of a modulo m: a * x is congruent to 1
pub record IsInverse (m a x : ℕ) : Type 0 where
  pub below : x < m
  pub one : (a * x) % m ≡ 1 % m

-- a has an inverse modulo m
abbrev pub HasInverse : ℕ → ℕ → Type 0
HasInverse m a = (x : ℕ) × IsInverse m a x

-- the result of an inversion of a modulo m: the inverse; `None` exactly where there is none
abbrev pub IsInversion : {T : Type 0} → (T → ℕ) → ℕ → ℕ → Option T → Type 0
IsInversion number m a found = MatchOption found ((x : ℕ) → IsInverse m a x → ⊥) (λ x. IsInverse m a (number x))

-- a number below the bound whose product with a is congruent to 1, if there is one
unfoldable pub inverse_below : ℕ → ℕ → ℕ → Option ℕ
inverse_below m a zero = None
inverse_below m a (suc x) = if (a * x) % m == 1 % m then Some x else inverse_below m a x

-- the inverse of a modulo m, if it has one
abbrev pub inverse_of : ℕ → ℕ → Option ℕ
inverse_of m a = inverse_below m a m
