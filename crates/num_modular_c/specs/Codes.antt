-- The effects of a call that returns a code. The names are the library's own words.
use Rattle.std.specs.Prelude.{◌≡◌, ℕ, ℤ, Option, MatchOption}
use Rattle.num_modular_c.specs.declared.codes.TheConstants.{NM_OK, NM_BAD_ARGUMENT}

-- the call returned `NM_OK`, and what it wrote is as wanted
abbrev pub Did : ℕ → Type 0 → Type 0
Did code wanted = (code ≡ NM_OK) × wanted

-- the call returned another code, the reason, and left its output unchanged
abbrev pub Refused : {A : Type 0} → ℕ → ℕ → A → A → Type 0
Refused reason code before after = (code ≡ reason) × (after ≡ before)

-- the same for two outputs
abbrev pub BothRefused : {A B : Type 0} → ℕ → ℕ → A → A → B → B → Type 0
BothRefused reason code before after other_before other_after =
    Refused reason code before after × (other_after ≡ other_before)

-- the call wrote the symbol, or returned `NM_BAD_ARGUMENT` where there is none
abbrev pub IsSymbol : Option ℤ → ℕ → ℤ → ℤ → Type 0
IsSymbol found code before after =
    MatchOption found (Refused NM_BAD_ARGUMENT code before after) (λ symbol. Did code (after ≡ symbol))
