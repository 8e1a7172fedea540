-- The forms of `Vanilla`: the form of a value is the value itself. The names are the library's own words.
use Rattle.std.specs.Prelude.{ℕ, ◌<◌, ◌≤◌, ◌^◌}
use Rattle.std.proofs.Common.{arith}
use Rattle.modular_reduced.specs.Forms.{IsCanonical}

-- modulo m the form of v is v
abbrev pub plain_form : ℕ → ℕ → ℕ
plain_form m v = v

-- modulo m the value of f is f
abbrev pub plain_value : ℕ → ℕ → ℕ
plain_value m f = f

-- each value is its only form
pub plain_canonical : (width m : ℕ) → 1 ≤ m → m < 2 ^ width → IsCanonical plain_form plain_value width m
plain_canonical width m positive fits = record {
  positive = omega arith;
  one_value = λ f v h. h.same;
  fits = λ v h. omega arith;
}
