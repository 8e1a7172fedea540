-- Erasure codes for C: which lengths the calls accept, and what they answer. The names are the library's own words.
use Rattle.std.specs.Prelude.{◌≡◌, ℕ, ◌+◌, ◌-◌, ◌*◌, ◌%◌, ◌<◌, ◌≤◌, List, length, slice_index}
use Rattle.num_modular.specs.Polynomials.{HaveUnitDifferences}
use Rattle.ring_correction.specs.Correction.{IsNear, IsCorrectFault}
use Rattle.ring_codes.specs.Erasure.{IsEncoding, ArePlaces, IsFault, IsShareFault, distance}
use Rattle.ring_codes.specs.declared.erasure.RestoreError.{RestoreError}
use Rattle.ring_codes.specs.declared.erasure.RestoreError.TheVariants.{TooFewSymbols, PlaceOutOfRange, PlaceTwice, PointsDontFit}
use Rattle.ring_codes.specs.declared.erasure.errors.CorrectError.{CorrectError}
use Rattle.ring_codes.specs.declared.erasure.errors.CorrectError.TheVariants.{Restore, TooManyErrors, NoInverse}
use Rattle.ring_codes.specs.declared.erasure.secrets.ShareError.{ShareError}
use Rattle.ring_codes.specs.declared.erasure.secrets.ShareError.TheVariants as refused
use Rattle.num_modular_c.specs.declared.codes.TheConstants.{NM_BAD_ARGUMENT, NM_NO_INVERSE, NM_TOO_FEW_SYMBOLS, NM_PLACE_OUT_OF_RANGE}
use Rattle.num_modular_c.specs.declared.codes.TheConstants.{NM_PLACE_TWICE, NM_POINTS_DONT_FIT, NM_TOO_MANY_ERRORS}
use Rattle.num_modular_c.specs.declared.codes.TheConstants.{NM_POINT_WITHOUT_INVERSE}

-- lengths for n points and k symbols of a message: the word has n places, and scratch room for both lists
pub record FitsEncode (n k places room : ℕ) : Type 0 where
  pub word : places ≡ n
  pub scratch : n + k ≤ room

-- the same for k coefficients whose first is a secret: there is one, and k of the n shares recover it
pub record FitsShare (n k places room : ℕ) : Type 0 where
  pub lengths : FitsEncode n k places room
  pub some : 1 ≤ k
  pub enough : k ≤ n

-- lengths for s places and t symbols: each place has its symbol, and scratch holds points, symbols, and three lists like
-- the message
pub record FitsRestore (n s k t room : ℕ) : Type 0 where
  pub symbols : t ≡ s
  pub scratch : n + s + 3 * k ≤ room

-- the same for a correction, of a message of at least one symbol
pub record FitsCorrect (n s k t places room : ℕ) : Type 0 where
  pub symbols : t ≡ s
  pub some : 1 ≤ k
  pub word : places ≡ n
  pub scratch : 2 * n + 4 * s + 4 * k + 2 ≤ room

-- the code of an error of `restore`
abbrev pub code_of : RestoreError → ℕ
code_of TooFewSymbols = NM_TOO_FEW_SYMBOLS
code_of PlaceOutOfRange = NM_PLACE_OUT_OF_RANGE
code_of PlaceTwice = NM_PLACE_TWICE
code_of PointsDontFit = NM_POINTS_DONT_FIT

-- the code of an error of `share`
abbrev pub share_code_of : ShareError → ℕ
share_code_of refused.NoCoefficients = NM_BAD_ARGUMENT
share_code_of refused.TooFewPoints = NM_BAD_ARGUMENT
share_code_of refused.PointWithoutInverse = NM_POINT_WITHOUT_INVERSE
share_code_of refused.PointsDontFit = NM_POINTS_DONT_FIT

-- the code of an error of `correct`
abbrev pub correct_code_of : CorrectError ℕ → ℕ
correct_code_of (Restore e) = code_of e
correct_code_of TooManyErrors = NM_TOO_MANY_ERRORS
correct_code_of (NoInverse a) = NM_NO_INVERSE

-- what the place for the number holds after an error
abbrev pub number_after : CorrectError ℕ → ℕ → ℕ
number_after (Restore e) before = before
number_after TooManyErrors before = before
number_after (NoInverse a) before = a

-- the places are right, and the points x there fit
abbrev pub ArePlaced : ℕ → ℕ → ℕ → (ℕ → ℕ) → List ℕ → Type 0
ArePlaced m k n x places = ArePlaces k n places × HaveUnitDifferences m k (λ i. x (slice_index places i))

-- the message has the symbols y at the places, and is that of each word that has them
pub record IsRestored (m k n : ℕ) (x : ℕ → ℕ) (places : List ℕ) (y message : ℕ → ℕ) : Type 0 where
  pub symbols : IsEncoding m k k (λ i. x (slice_index places i)) message y
  pub original : (sent word : ℕ → ℕ) → IsEncoding m k n x sent word
      → ((i : ℕ) → i < k → y i ≡ word (slice_index places i)) → (i : ℕ) → i < k → message i ≡ sent i % m

-- restoring failed for the first reason
pub record IsRestoreFailure (m k n : ℕ) (x : ℕ → ℕ) (places : List ℕ) (code : ℕ) (before after : List ℕ) : Type 0 where
  pub error : RestoreError
  pub code_is : code ≡ code_of error
  pub reason : IsFault m k n x places error
  pub unchanged : after ≡ before

-- the word is that of the message and differs from the symbols y in so many of them, and it is the only one so near
pub record IsCorrected (m k n : ℕ) (x : ℕ → ℕ) (places : List ℕ) (y message word : ℕ → ℕ) (e : ℕ) : Type 0 where
  pub encoding : IsEncoding m k n x message word
  pub errors : e ≡ distance (length places) y (λ j. word (slice_index places j))
  pub few : 2 * e ≤ length places - k
  pub only_word : (sent other : ℕ → ℕ) → IsEncoding m k n x sent other → IsNear k places y other
      → (i : ℕ) → i < n → word i ≡ other i
  pub only_message : (sent other : ℕ → ℕ) → IsEncoding m k n x sent other → IsNear k places y other
      → (i : ℕ) → i < k → message i ≡ sent i % m

-- correcting failed, for this reason
pub record IsCorrectFailure (m k n : ℕ) (x : ℕ → ℕ) (places : List ℕ) (y : ℕ → ℕ) (code before after : ℕ) : Type 0 where
  pub error : CorrectError ℕ
  pub code_is : code ≡ correct_code_of error
  pub reason : IsCorrectFault (λ a. a) m k n x places y error
  pub number : after ≡ number_after error before

-- sharing failed, for the first reason
pub record IsShareFailure (m k n : ℕ) (x : ℕ → ℕ) (code : ℕ) (before after : List ℕ) : Type 0 where
  pub error : ShareError
  pub code_is : code ≡ share_code_of error
  pub reason : IsShareFault m k n x error
  pub unchanged : after ≡ before
