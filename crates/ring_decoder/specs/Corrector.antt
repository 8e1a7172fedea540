-- What correcting a word means where some of its symbols are lost, and others may be wrong (Reed and Solomon, "Polynomial
-- codes over certain finite fields", 1960; Forney, "On decoding BCH codes", IEEE Transactions on Information Theory 11, 1965).
use Rattle.std.specs.Prelude.{◌≡◌, ℕ, ◌+◌, ◌-◌, ◌*◌, ◌<◌, ◌≤◌, List, All, length, ◌==◌, if◌then◌else◌}
use Rattle.std.specs.List.{list_any}
use Rattle.num_modular.specs.Entries.{entry}
use Rattle.num_modular.specs.Forms.{IsForm}
use Rattle.ring_codes.specs.Erasure.{IsErasureCodeword, ArePlaces, IsFault, distance}
use Rattle.ring_codes.specs.Erasure.{IsWithoutInverse}
use Rattle.ring_codes.specs.declared.erasure.errors.CorrectError.{CorrectError}
use Rattle.ring_codes.specs.declared.erasure.errors.CorrectError.TheVariants.{Restore, TooManyErrors, NoInverse}
use Rattle.ring_codes.specs.declared.erasure.RestoreError.{RestoreError}
use Rattle.ring_codes.specs.declared.erasure.RestoreError.TheVariants.{TooFewSymbols, PlaceOutOfRange, PlaceTwice, PointsDontFit}
use Rattle.ring_decoder.specs.Syndromes.{AreChecks, AreWeights}

-- a word with 0 in the place of each lost symbol
abbrev pub without : List ℕ → (ℕ → ℕ) → ℕ → ℕ
without lost y i = if list_any (λ p. p == i) lost then 0 else y i

-- the number of the places at which two words differ, those of lost symbols left out
abbrev pub listed_distance : ℕ → List ℕ → (ℕ → ℕ) → (ℕ → ℕ) → ℕ
listed_distance n lost a b = distance n (without lost a) (without lost b)

-- a word differs from the symbols that aren't lost in so few of them that twice their number is at most their number less k
abbrev pub IsNearWord : ℕ → ℕ → List ℕ → (ℕ → ℕ) → (ℕ → ℕ) → Type 0
IsNearWord k n lost symbols word = 2 * listed_distance n lost symbols word ≤ n - k - length lost

-- the lost places are below n and distinct, and at least k others are left
pub record AreLost (k n : ℕ) (lost : List ℕ) : Type 0 where
  pub enough : k + length lost ≤ n
  pub places : ArePlaces (length lost) n lost

-- what is wrong first with the lost places: fewer than k others are left, a place isn't below n, or one occurs twice
abbrev pub AreLostAtFault : ℕ → ℕ → ℕ → (ℕ → ℕ) → List ℕ → RestoreError → Type 0
AreLostAtFault m k n x lost TooFewSymbols = n < k + length lost
AreLostAtFault m k n x lost PlaceOutOfRange = (k + length lost ≤ n) × IsFault m (length lost) n x lost PlaceOutOfRange
AreLostAtFault m k n x lost PlaceTwice = (k + length lost ≤ n) × IsFault m (length lost) n x lost PlaceTwice
AreLostAtFault m k n x lost PointsDontFit = ⊥

-- the new word is of the code and differs from the old one in so few symbols, `errors`, those that were lost left out, and
-- each word of the code that is as near is the new one
pub record IsCorrectedWord {T : Type 0} (IsChecked : T → Type 0) (entries : List T → ℕ → ℕ) (m k : ℕ) (points : List T)
    (lost : List ℕ) (old new : List T) (errors : ℕ) : Type 0 where
  pub places : AreLost k (length points) lost
  pub checked : All IsChecked new
  pub codeword : IsErasureCodeword m k (length points) (entries points) (entries new)
  pub count : errors ≡ listed_distance (length points) lost (entries old) (entries new)
  pub few : 2 * errors ≤ length points - k - length lost
  pub only : (word : ℕ → ℕ) → IsErasureCodeword m k (length points) (entries points) word
      → IsNearWord k (length points) lost (entries old) word → (i : ℕ) → i < length points → entries new i ≡ word i

-- the meaning of an error: what is wrong with the lost places; or these are right, and no word of the code is near, or a
-- number has no inverse, and each word of the code that is near differs in two symbols or more
abbrev pub IsCorrectorFault : {T : Type 0} → (T → ℕ) → ℕ → ℕ → ℕ → (ℕ → ℕ) → List ℕ → (ℕ → ℕ) → CorrectError T → Type 0
IsCorrectorFault number m k n x lost symbols (Restore e) = AreLostAtFault m k n x lost e
IsCorrectorFault number m k n x lost symbols TooManyErrors = AreLost k n lost
    × ((word : ℕ → ℕ) → IsErasureCodeword m k n x word → IsNearWord k n lost symbols word → ⊥)
IsCorrectorFault number m k n x lost symbols (NoInverse a) = AreLost k n lost × IsWithoutInverse m (number a)
    × ((word : ℕ → ℕ) → IsErasureCodeword m k n x word → IsNearWord k n lost symbols word
    → 2 ≤ listed_distance n lost symbols word)

-- the lists of a code for messages of k symbols: the forms of the points and of their weights, and no check or a table of them
pub record AreCorrectorLists {T : Type 0} (number : T → ℕ) (form value : ℕ → ℕ → ℕ) (m k : ℕ) (points weights checks : List T)
    : Type 0 where
  pub point_forms : All (λ f. IsForm form value m (number f)) points
  pub weight_forms : All (λ f. IsForm form value m (number f)) weights
  pub check_forms : All (λ f. IsForm form value m (number f)) checks
  pub few : k ≤ length points
  pub count : length weights ≡ length points
  pub inverses : AreWeights m (length points) (entry number value m points) (entry number value m weights)
  pub checks_count : 0 < length checks → length checks ≡ (length points - k) * length points
  pub table : 0 < length checks → AreChecks m (length points - k) (length points) (entry number value m points)
      (entry number value m weights) (entry number value m checks)
