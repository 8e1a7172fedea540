-- The value of a form, where only the form of each value is given. The names are the library's own words.
use Rattle.std.specs.Prelude.{ℕ, suc, zero, ◌==◌, if◌then◌else◌}

-- the number below the bound whose form is f; the greatest, where there are several
unfoldable pub value_below : (ℕ → ℕ) → ℕ → ℕ → ℕ
value_below form zero f = 0
value_below form (suc v) f = if form v == f then v else value_below form v f

-- modulo m, the number below m whose form is f
abbrev pub value_from : (ℕ → ℕ → ℕ) → ℕ → ℕ → ℕ
value_from form m f = value_below (form m) m f
