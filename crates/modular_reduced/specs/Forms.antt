-- The forms of a reducer. Forms and values are whole numbers, without a width. A reducer defines its forms by two
-- functions: modulo m, `form m v` is the form of the value v, and `value m f` the value of the form f. The names
-- form, checked form and canonical are the library's own words, after the Rust crate's `Reducer`.
use Rattle.std.specs.Prelude.{◌≡◌, ℕ, ◌<◌, ◌^◌, Option, MatchOption}
use Rattle.modular_word.specs.Inverses.{IsInverse}

-- modulo m the form f represents the value v
pub record Represents (form : ℕ → ℕ → ℕ) (m f v : ℕ) : Type 0 where
  pub below : v < m
  pub same : f ≡ form m v

-- f is a checked form modulo m: the form of its value
pub record IsForm (form value : ℕ → ℕ → ℕ) (m f : ℕ) : Type 0 where
  pub below : value m f < m
  pub same : f ≡ form m (value m f)

-- modulo m, m being above 0, each value has exactly one form, a word, and each form exactly one value
pub record IsCanonical (form value : ℕ → ℕ → ℕ) (width m : ℕ) : Type 0 where
  pub positive : 0 < m
  pub one_value : (f v : ℕ) → Represents form m f v → value m f ≡ v
  pub fits : (v : ℕ) → v < m → form m v < 2 ^ width

-- the result of an inversion of the value v: the form of the inverse; `None` exactly where there is none
abbrev pub IsInverseForm : {T : Type 0} → (T → ℕ) → (ℕ → ℕ → ℕ) → ℕ → ℕ → Option T → Type 0
IsInverseForm number form m v found =
    MatchOption found ((x : ℕ) → IsInverse m v x → ⊥) (λ f. (x : ℕ) × IsInverse m v x × Represents form m (number f) x)
