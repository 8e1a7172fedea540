-- The checked forms of a reducer, where `ring` is what its type says of forms, `R.Reducer`, and `number` gives the number
-- of a word. The names are the library's own words.
use Rattle.std.specs.Prelude.{ℕ, List, All}
use Rattle.modular_reduced.specs.declared.reducer.Reducer as reducer
use Rattle.modular_reduced.specs.Forms.{IsForm}

-- the word f is a checked form of the reducer r
abbrev pub IsChecked : {S T : Type 0} → reducer.Ghosts S T → (T → ℕ) → S → T → Type 0
IsChecked ring number r f = IsForm ring.form ring.value (ring.modulus r) (number f)

-- each entry of the list is one
abbrev pub AreChecked : {S T : Type 0} → reducer.Ghosts S T → (T → ℕ) → S → List T → Type 0
AreChecked ring number r forms = All (λ f. IsChecked ring number r f) forms
