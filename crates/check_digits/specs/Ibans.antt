-- IBANs as their standard defines them (ISO 13616-1:2020, by ISO/IEC 7064:2003, MOD 97-10).
use Rattle.std.specs.Prelude.{◌≡◌, ◌≢◌, ◌↔◌, ℕ, suc, ◌<◌, slice_set, ◌+◌, ◌-◌, ◌*◌, ◌/◌, ◌%◌, ◌≤◌, ◌⊎◌}
use Rattle.std.specs.Prelude.{if◌then◌else◌, nat_le, nat_eq}
use Rattle.std.specs.Prelude.{List, All, [], ◌∷◌, ◌++◌, length, slice_index, take, drop}
use Rattle.std.specs.List.{flat_map}
use Rattle.num_modular.specs.Sums.{polynomial_highest_first}
use Rattle.check_digits.specs.Codes.{exchanged}

-- a digit 0 to 9, by its number in ASCII
abbrev pub IsDigit : ℕ → Type 0
IsDigit c = (48 ≤ c) × (c ≤ 57)

-- a letter A to Z
abbrev pub IsLetter : ℕ → Type 0
IsLetter c = (65 ≤ c) × (c ≤ 90)

-- the text has the form of an IBAN: two letters of a country, two check digits, and one to thirty digits and letters
pub record IsIbanForm (text : List ℕ) : Type 0 where
  pub least : 5 ≤ length text
  pub most : length text ≤ 34
  pub country : IsLetter (slice_index text 0) × IsLetter (slice_index text 1)
  pub check : IsDigit (slice_index text 2) × IsDigit (slice_index text 3)
  pub characters : All (λ c. IsDigit c ⊎ IsLetter c) text

-- the digits of a character: a digit stays, a letter becomes two digits, 10 for A to 35 for Z
abbrev pub digits_of : ℕ → List ℕ
digits_of c = if nat_le c 57 then (c - 48) ∷ [] else ((c - 55) / 10) ∷ ((c - 55) % 10) ∷ []

-- the digits of a text whose first four characters are moved to the end
abbrev pub iban_digits : List ℕ → List ℕ
iban_digits text = flat_map digits_of (drop 4 text ++ take 4 text)

-- the number that these digits form in decimal
abbrev pub iban_number : List ℕ → ℕ
iban_number text = polynomial_highest_first (length (iban_digits text)) (slice_index (iban_digits text)) 10

-- the number that the two check digits form
abbrev pub check_number : List ℕ → ℕ
check_number text = 10 * (slice_index text 2 - 48) + (slice_index text 3 - 48)

-- the text is an IBAN: it has the form, its check digits are of those that the standard generates, 98 less a
-- remainder modulo 97, and its number is 1 modulo 97
pub record IsIban (text : List ℕ) : Type 0 where
  pub form : IsIbanForm text
  pub generated : (2 ≤ check_number text) × (check_number text ≤ 98)
  pub leaves : iban_number text % 97 ≡ 1

-- the text with other check digits
abbrev pub with_check : List ℕ → ℕ → ℕ → List ℕ
with_check text a b = slice_set (slice_set text 2 a) 3 b

-- the text has the form of an IBAN, and the two characters are the only ones that, as its check digits, make it an IBAN
pub record AreCheckDigits (text digits : List ℕ) : Type 0 where
  pub form : IsIbanForm text
  pub accepted : IsIban (with_check text (slice_index digits 0) (slice_index digits 1))
  pub only : (a b : ℕ) → IsIban (with_check text a b) → (a ≡ slice_index digits 0) × (b ≡ slice_index digits 1)

-- a character, if it is no space
abbrev pub unspaced : ℕ → List ℕ
unspaced c = if nat_eq c 32 then [] else c ∷ []

-- the characters of a text without its spaces
abbrev pub without_spaces : List ℕ → List ℕ
without_spaces text = flat_map unspaced text

-- the text is in groups of four characters, with a space between two groups
pub record IsGrouped (text : List ℕ) : Type 0 where
  pub spaces : (i : ℕ) → i < length text → (slice_index text i ≡ 32) ↔ (i % 5 ≡ 4)
  pub last : length text % 5 ≢ 0

-- both characters are digits, or both are letters
abbrev pub AreOfOneKind : ℕ → ℕ → Type 0
AreOfOneKind c d = (IsDigit c × IsDigit d) ⊎ (IsLetter c × IsLetter d)

-- every change of one character of an IBAN to another of its kind is detected
abbrev pub FindsEachCharacter : Type 0
FindsEachCharacter = (text : List ℕ) (i c : ℕ) → IsIban text → i < length text
    → AreOfOneKind (slice_index text i) c → c ≢ slice_index text i → ¬ IsIban (slice_set text i c)

-- 1 and B, 2 and M, or 3 and X: the letter's number is 11 times the digit, so both orders have the same residue
-- modulo 97
abbrev pub AreElevenfold : ℕ → ℕ → Type 0
AreElevenfold c d = ((c ≡ 49) × (d ≡ 66)) ⊎ ((c ≡ 50) × (d ≡ 77)) ⊎ ((c ≡ 51) × (d ≡ 88))

-- an exchange of two different neighbouring characters of an IBAN gives an IBAN exactly for such a digit and letter, in
-- either order, after the check digits
abbrev pub FindsAllButElevenfold : Type 0
FindsAllButElevenfold = (text : List ℕ) (i : ℕ) → IsIban text → suc i < length text
    → slice_index text i ≢ slice_index text (suc i)
    → IsIban (exchanged text i)
    ↔ ((4 ≤ i) × (AreElevenfold (slice_index text i) (slice_index text (suc i))
    ⊎ AreElevenfold (slice_index text (suc i)) (slice_index text i)))
