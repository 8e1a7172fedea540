-- What correcting the symbols of a word means (Hamming, "Error detecting and error correcting codes", The Bell System
-- Technical Journal 29, 1950; Reed and Solomon, "Polynomial codes over certain finite fields", 1960).
use Rattle.std.specs.Prelude.{◌≡◌, ℕ, ◌-◌, ◌*◌, ◌%◌, ◌<◌, ◌≤◌, List, All, length, slice_index}
use Rattle.num_modular.specs.Polynomials.{polynomial_at, HaveUnitDifferences}
use Rattle.ring_codes.specs.Erasure.{IsEncoding, IsErasureCodeword, IsWithoutInverse, ArePlaces, IsFault, distance}
use Rattle.ring_codes.specs.declared.erasure.errors.CorrectError.{CorrectError}
use Rattle.ring_codes.specs.declared.erasure.errors.CorrectError.TheVariants.{Restore, TooManyErrors, NoInverse}
use Rattle.ring_codes.specs.declared.erasure.RestoreError.{RestoreError}
use Rattle.ring_codes.specs.declared.erasure.RestoreError.TheVariants.{TooFewSymbols, PlaceOutOfRange, PlaceTwice, PointsDontFit}

-- a word differs from the symbols at the places in so few of them that twice their number is at most the number of the
-- symbols less k
abbrev pub IsNear : ℕ → List ℕ → (ℕ → ℕ) → (ℕ → ℕ) → Type 0
IsNear k places symbols word = 2 * distance (length places) symbols (λ j. word (slice_index places j)) ≤ length places - k

-- there are at least k places, all of them are below n and distinct, and the points x there have differences with inverses
pub record AreFit (m k n : ℕ) (x : ℕ → ℕ) (places : List ℕ) : Type 0 where
  pub enough : k ≤ length places
  pub right : ArePlaces (length places) n places
  pub points : HaveUnitDifferences m (length places) (λ i. x (slice_index places i))

-- no symbol is wrong: those at the places are those of a word of the code
abbrev pub AreRight : ℕ → ℕ → ℕ → (ℕ → ℕ) → List ℕ → (ℕ → ℕ) → Type 0
AreRight m k n x places symbols = (word : ℕ → ℕ) × IsErasureCodeword m k n x word
    × ((i : ℕ) → i < length places → symbols i ≡ word (slice_index places i))

-- the points at all places, copied
pub record AreLocated {T : Type 0} (IsChecked : T → Type 0) (entries : List T → ℕ → ℕ) (k : ℕ) (points : List T)
    (places : List ℕ) (located : List T) : Type 0 where
  pub enough : k ≤ length places
  pub right : ArePlaces (length places) (length points) places
  pub checked : All IsChecked located
  pub pairs : length located ≡ length places
  pub same : (i : ℕ) → i < length places → entries located i ≡ entries points (slice_index places i)

-- the word of a message with k symbols differs from s symbols y at points x in so few that twice their number is at most s - k
abbrev pub IsNearMessage : ℕ → ℕ → ℕ → (ℕ → ℕ) → (ℕ → ℕ) → (ℕ → ℕ) → Type 0
IsNearMessage m k s x y sent = 2 * distance s y (λ j. polynomial_at k sent (x j) % m) ≤ s - k

-- the points fit, and only this message can be near the symbols; with its word
pub record IsCandidate {T : Type 0} (IsChecked : T → Type 0) (entries : List T → ℕ → ℕ) (m k : ℕ)
    (points symbols message word : List T) : Type 0 where
  pub fit : HaveUnitDifferences m (length points) (entries points)
  pub checked : All IsChecked message
  pub forms : All IsChecked word
  pub encoding : IsEncoding m k (length points) (entries points) (entries message) (entries word)
  pub only : (sent : ℕ → ℕ) → IsNearMessage m k (length points) (entries points) (entries symbols) sent
      → (i : ℕ) → i < k → entries message i ≡ sent i % m

-- the meaning of an error of the search: the points don't fit; or they do, and no message is near, or a number has no inverse
-- and the symbols aren't of the code
abbrev pub IsSearchFault : {T : Type 0} → (T → ℕ) → ℕ → ℕ → ℕ → (ℕ → ℕ) → (ℕ → ℕ) → CorrectError T → Type 0
IsSearchFault number m k s x y (Restore e) = (e ≡ PointsDontFit) × (HaveUnitDifferences m s x → ⊥)
IsSearchFault number m k s x y TooManyErrors =
    HaveUnitDifferences m s x × ((sent : ℕ → ℕ) → IsNearMessage m k s x y sent → ⊥)
IsSearchFault number m k s x y (NoInverse a) =
    HaveUnitDifferences m s x × IsWithoutInverse m (number a) × (IsErasureCodeword m k s x y → ⊥)

-- the message and the word whose symbols differ from those at the places in so few, `errors`, in none if none is wrong,
-- and no other is as near
pub record IsCorrected {T : Type 0} (IsChecked : T → Type 0) (entries : List T → ℕ → ℕ) (m k : ℕ) (points : List T)
    (places : List ℕ) (symbols message word : List T) (errors : ℕ) : Type 0 where
  pub fit : AreFit m k (length points) (entries points) places
  pub checked : All IsChecked word
  pub forms : All IsChecked message
  pub encoding : IsEncoding m k (length points) (entries points) (entries message) (entries word)
  pub count : errors ≡ distance (length places) (entries symbols) (λ j. entries word (slice_index places j))
  pub few : 2 * errors ≤ length places - k
  pub none : AreRight m k (length points) (entries points) places (entries symbols) → errors ≡ 0
  pub only : (sent other : ℕ → ℕ) → IsEncoding m k (length points) (entries points) sent other
      → IsNear k places (entries symbols) other
      → ((i : ℕ) → i < length points → entries word i ≡ other i) × ((i : ℕ) → i < k → entries message i ≡ sent i % m)

-- the shares are corrected, and the secret is the constant of each polynomial that is near
pub record IsRecovered {T : Type 0} (IsChecked : T → Type 0) (value : T → ℕ) (entries : List T → ℕ → ℕ) (m k : ℕ)
    (points : List T) (places : List ℕ) (shares coefficients word : List T) (found : T) : Type 0 where
  pub checked : IsChecked found
  pub secret : (original other : ℕ → ℕ) → IsEncoding m k (length points) (entries points) original other
      → IsNear k places (entries shares) other → value found ≡ original 0 % m
  pub errors : ℕ
  pub corrected : IsCorrected IsChecked entries m k points places shares coefficients word errors

-- what is wrong first with s places: fewer than k, or the places or points of all s
abbrev pub ArePlacesAtFault : ℕ → ℕ → ℕ → (ℕ → ℕ) → List ℕ → RestoreError → Type 0
ArePlacesAtFault m k n x places TooFewSymbols = length places < k
ArePlacesAtFault m k n x places PlaceOutOfRange = (k ≤ length places) × IsFault m (length places) n x places PlaceOutOfRange
ArePlacesAtFault m k n x places PlaceTwice = (k ≤ length places) × IsFault m (length places) n x places PlaceTwice
ArePlacesAtFault m k n x places PointsDontFit = (k ≤ length places) × IsFault m (length places) n x places PointsDontFit

-- the meaning of an error: what is wrong with the places; or these fit, and no word of the code is near, or a number has
-- no inverse and some symbol is wrong
abbrev pub IsCorrectFault : {T : Type 0} → (T → ℕ) → ℕ → ℕ → ℕ → (ℕ → ℕ) → List ℕ → (ℕ → ℕ) → CorrectError T → Type 0
IsCorrectFault number m k n x places symbols (Restore e) = ArePlacesAtFault m k n x places e
IsCorrectFault number m k n x places symbols TooManyErrors = AreFit m k n x places
    × ((word : ℕ → ℕ) → IsErasureCodeword m k n x word → IsNear k places symbols word → ⊥)
IsCorrectFault number m k n x places symbols (NoInverse a) =
    AreFit m k n x places × IsWithoutInverse m (number a) × (AreRight m k n x places symbols → ⊥)
