-- Check digits for C: the standards by their numbers, and codes as C has them. The names are the library's own words.
use Rattle.std.specs.Prelude.{◌≡◌, ℕ, ◌≤◌, ◌<◌, ◌==◌, ◌⊎◌, if◌then◌else◌, List, length, Option, Some, None, MatchOption}
use Rattle.check_digits.specs.Codes.{CheckCode, IsCodeword, IsCompletion}
use Rattle.check_digits.specs.Damm.{IsDamm}
use Rattle.check_digits.specs.Ibans.{IsGrouped, IsIban, without_spaces}
use Rattle.check_digits.specs.Luhn.{IsLuhn}
use Rattle.check_digits.specs.Standards.{isbn_10, isbn_13, ean_13, ean_8, upc_a, issn, orcid, aba_rtn}
use Rattle.check_digits.specs.Texts.{IsSymbolText, symbols_of}
use Rattle.check_digits.specs.Verhoeff.{IsVerhoeff}
use Rattle.num_modular_c.specs.Codes.{Did, Refused}
use Rattle.num_modular_c.specs.declared.check_codes.NmCheckCode.{NmCheckCode}
use Rattle.num_modular_c.specs.declared.check_codes.Standard.{Standard}
use Rattle.num_modular_c.specs.declared.check_codes.Standard.TheVariants.{Isbn10, Isbn13, Ean13, Ean8, UpcA, Issn, Orcid}
use Rattle.num_modular_c.specs.declared.check_codes.Standard.TheVariants.{AbaRtn, Luhn, Verhoeff, Damm}
use Rattle.num_modular_c.specs.declared.check_codes.TheConstants.{NM_ISBN_10, NM_ISBN_13, NM_EAN_13, NM_EAN_8, NM_UPC_A}
use Rattle.num_modular_c.specs.declared.check_codes.TheConstants.{NM_ISSN, NM_ORCID, NM_ABA_RTN, NM_LUHN, NM_VERHOEFF, NM_DAMM}
use Rattle.num_modular_c.specs.declared.codes.TheConstants.{NM_NOT_ACCEPTED}

-- the standard with this number
abbrev pub standard_of : ℕ → Option Standard
standard_of n =
    if n == NM_ISBN_10 then Some Isbn10
    else if n == NM_ISBN_13 then Some Isbn13
    else if n == NM_EAN_13 then Some Ean13
    else if n == NM_EAN_8 then Some Ean8
    else if n == NM_UPC_A then Some UpcA
    else if n == NM_ISSN then Some Issn
    else if n == NM_ORCID then Some Orcid
    else if n == NM_ABA_RTN then Some AbaRtn
    else if n == NM_LUHN then Some Luhn
    else if n == NM_VERHOEFF then Some Verhoeff
    else if n == NM_DAMM then Some Damm
    else None

-- the code of the standard, if it has one
abbrev pub code_of_standard : Standard → Option CheckCode
code_of_standard Isbn10 = Some isbn_10
code_of_standard Isbn13 = Some isbn_13
code_of_standard Ean13 = Some ean_13
code_of_standard Ean8 = Some ean_8
code_of_standard UpcA = Some upc_a
code_of_standard Issn = Some issn
code_of_standard Orcid = Some orcid
code_of_standard AbaRtn = Some aba_rtn
code_of_standard Luhn = None
code_of_standard Verhoeff = None
code_of_standard Damm = None

-- the last digit of the word is right by the standard's method; one that isn't named has Damm's
abbrev pub HasCheckDigit : Standard → List ℕ → Type 0
HasCheckDigit Luhn word = IsLuhn word
HasCheckDigit Verhoeff word = IsVerhoeff word
HasCheckDigit _ word = IsDamm word

-- the word is one of the standard
abbrev pub IsWord : Standard → List ℕ → Type 0
IsWord s word = MatchOption (code_of_standard s) (HasCheckDigit s word) (λ code. IsCodeword code word)

-- the result of the search for the symbol that, behind the word, makes it one of the standard
abbrev pub IsCompleted : Standard → List ℕ → Option ℕ → Type 0
IsCompleted s word found = MatchOption (code_of_standard s) (IsCompletion 10 (HasCheckDigit s) word found)
    (λ code. IsCompletion code.modulus (IsCodeword code) word found)

-- the text has symbols that are a word of the standard
abbrev pub IsNumber : Standard → List ℕ → Type 0
IsNumber s text = IsSymbolText text × IsWord s (symbols_of text)

-- the text is an IBAN, without spaces or in groups of four characters
abbrev pub IsAnyIban : List ℕ → Type 0
IsAnyIban text = IsIban text ⊎ (IsGrouped text × IsIban (without_spaces text))

-- a code as C has it
abbrev pub check_code : NmCheckCode → CheckCode
check_code c = record {
  modulus = c.modulus;
  residue = c.residue;
  weights = c.weights.now;
  least = c.least.now;
  greatest = c.greatest.now;
}

-- the modulus is at least 1, and each place has a least and a greatest symbol
pub record IsCheckCode (code : CheckCode) : Type 0 where
  pub modulus : 1 ≤ code.modulus
  pub least : length code.least ≡ length code.weights
  pub greatest : length code.greatest ≡ length code.weights

-- the word has a symbol for each weight of the code, and the place
pub record HasPlace (code : CheckCode) (word : List ℕ) (place : ℕ) : Type 0 where
  pub is_code : IsCheckCode code
  pub places : length word ≡ length code.weights
  pub within : place < length word

-- the call wrote the symbol that was found, or returned `NM_NOT_ACCEPTED` where none was
abbrev pub IsWritten : Option ℕ → ℕ → ℕ → ℕ → Type 0
IsWritten found code before after =
    MatchOption found (Refused NM_NOT_ACCEPTED code before after) (λ symbol. Did code (after ≡ symbol))

-- the call wrote the symbol that is right, or returned `NM_NOT_ACCEPTED` where none is
pub record Wrote (IsRight : Option ℕ → Type 0) (code before after : ℕ) : Type 0 where
  pub found : Option ℕ
  pub right : IsRight found
  pub written : IsWritten found code before after
