-- Texts of symbols as people write them, by the numbers of their characters in ASCII (ANSI X3.4, 1986). ISO 2108 has
-- hyphens or spaces in an ISBN, and ISO 3297 a hyphen in an ISSN; that one may stand between any two symbols is this
-- library's own definition.
use Rattle.std.specs.Prelude.{◌≡◌, ℕ, suc, ◌-◌, ◌<◌, ◌≤◌, ◌⊎◌, if◌then◌else◌, nat_eq, nat_lt}
use Rattle.std.specs.Prelude.{List, [], ◌∷◌, All, length, slice_index, take}
use Rattle.std.specs.List.{flat_map}
use Rattle.check_digits.specs.Ibans.{IsDigit}

-- a digit, or X, which is 10
abbrev pub IsSymbol : ℕ → Type 0
IsSymbol c = IsDigit c ⊎ (c ≡ 88)

-- a space or a hyphen
abbrev pub IsSeparator : ℕ → Type 0
IsSeparator c = (c ≡ 32) ⊎ (c ≡ 45)

-- the text has at least one symbol, and between two of them there may be one separator; what is past the end of the
-- text is no symbol
pub record IsSymbolText (text : List ℕ) : Type 0 where
  pub first : IsSymbol (slice_index text 0)
  pub characters : All (λ c. IsSymbol c ⊎ IsSeparator c) text
  pub between : (i : ℕ) → i < length text → IsSeparator (slice_index text i) → IsSymbol (slice_index text (suc i))

-- the symbol of a character; a separator, whose number is below that of the digit 0, has none
abbrev pub symbol_of : ℕ → List ℕ
symbol_of c = if nat_lt c 48 then [] else if nat_eq c 88 then 10 ∷ [] else (c - 48) ∷ []

-- the symbols of a text
abbrev pub symbols_of : List ℕ → List ℕ
symbols_of text = flat_map symbol_of text

-- n symbols, those of the text, were written to the beginning of a list
pub record AreSymbols (text symbols : List ℕ) (n : ℕ) : Type 0 where
  pub is_text : IsSymbolText text
  pub room : n ≤ length symbols
  pub same : take n symbols ≡ symbols_of text
