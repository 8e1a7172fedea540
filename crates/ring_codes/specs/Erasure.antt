-- Reed-Solomon codes over the integers modulo m (Reed and Solomon, "Polynomial codes over certain finite fields",
-- Journal of the Society for Industrial and Applied Mathematics 8, 1960; over rings Quintin, Barbier and Chabot,
-- "On generalized Reed-Solomon codes over commutative and noncommutative rings", 2013).
use Rattle.std.specs.Prelude.{◌≡◌, ◌≢◌, ℕ, ◌%◌, ◌<◌, ◌≤◌, List, All, length, slice_index, ◌==◌, if◌then◌else◌}
use Rattle.num_modular.specs.Inverses.{IsInverse, HasInverse}
use Rattle.num_modular.specs.Polynomials.{polynomial_at, HaveUnitDifferences}
use Rattle.num_modular.specs.Sums.{sum_below}
use Rattle.ring_codes.specs.declared.erasure.RestoreError.{RestoreError}
use Rattle.ring_codes.specs.declared.erasure.RestoreError.TheVariants.{TooFewSymbols, PlaceOutOfRange, PlaceTwice, PointsDontFit}
use Rattle.ring_codes.specs.declared.erasure.secrets.ShareError.{ShareError}
use Rattle.ring_codes.specs.declared.erasure.secrets.ShareError.TheVariants as refused

-- the word of a message of k symbols at n points: symbol i is the value modulo m at point i of the polynomial with the
-- message's symbols as coefficients, the constant first
pub record IsEncoding (m k n : ℕ) (points message word : ℕ → ℕ) : Type 0 where
  pub symbol : (i : ℕ) → i < n → word i ≡ polynomial_at k message (points i) % m

-- the word is that of some message
abbrev pub IsErasureCodeword : ℕ → ℕ → ℕ → (ℕ → ℕ) → (ℕ → ℕ) → Type 0
IsErasureCodeword m k n points word = (message : ℕ → ℕ) × IsEncoding m k n points message word

-- the number of the places 0 to n - 1 at which two words differ (Hamming, "Error detecting and error correcting
-- codes", The Bell System Technical Journal 29, 1950)
abbrev pub distance : ℕ → (ℕ → ℕ) → (ℕ → ℕ) → ℕ
distance n a b = sum_below n (λ i. if a i == b i then 0 else 1)

-- there are at least k places; the first k of them are below n and distinct
pub record ArePlaces (k n : ℕ) (places : List ℕ) : Type 0 where
  pub enough : k ≤ length places
  pub within : (i : ℕ) → i < k → slice_index places i < n
  pub distinct : (i j : ℕ) → i < j → j < k → slice_index places i ≢ slice_index places j

-- the meaning of an error, for the places and the points x there: what is wrong first, of the number of places, then
-- of each place in turn, then of the points
abbrev pub IsFault : ℕ → ℕ → ℕ → (ℕ → ℕ) → List ℕ → RestoreError → Type 0
IsFault m k n x places TooFewSymbols = length places < k
IsFault m k n x places PlaceOutOfRange =
    (i : ℕ) × (i < k) × (k ≤ length places) × ArePlaces i n places × (n ≤ slice_index places i)
IsFault m k n x places PlaceTwice = (i : ℕ) × (j : ℕ) × (i < j) × (j < k) × (k ≤ length places) × ArePlaces j n places
    × (slice_index places i ≡ slice_index places j)
IsFault m k n x places PointsDontFit =
    ArePlaces k n places × (HaveUnitDifferences m k (λ i. x (slice_index places i)) → ⊥)

-- k shares are among n, and each of the n points x has an inverse
pub record HaveShares (m k n : ℕ) (x : ℕ → ℕ) : Type 0 where
  pub some : 1 ≤ k
  pub enough : k ≤ n
  pub inverses : (i : ℕ) → i < n → HasInverse m (x i)

-- the meaning of an error of `share`, for k coefficients and n points x: there is none, there are fewer points than
-- coefficients, not each point has an inverse, or each has one, but not each difference
abbrev pub IsShareFault : ℕ → ℕ → ℕ → (ℕ → ℕ) → ShareError → Type 0
IsShareFault m k n x refused.NoCoefficients = k ≡ 0
IsShareFault m k n x refused.TooFewPoints = n < k
IsShareFault m k n x refused.PointWithoutInverse =
    (1 ≤ k) × (k ≤ n) × (((i : ℕ) → i < n → HasInverse m (x i)) → ⊥)
IsShareFault m k n x refused.PointsDontFit = HaveShares m k n x × (HaveUnitDifferences m n x → ⊥)

-- shares of the constant of k coefficients at n points, each k of which recover it
pub record AreShares {T : Type 0} (IsChecked : T → Type 0) (entries : List T → ℕ → ℕ) (m : ℕ)
    (points coefficients shares : List T) : Type 0 where
  pub points_right : HaveShares m (length coefficients) (length points) (entries points)
  pub fit : HaveUnitDifferences m (length points) (entries points)
  pub checked : All IsChecked shares
  pub encoding : IsEncoding m (length coefficients) (length points) (entries points) (entries coefficients)
      (entries shares)

-- a isn't 0, is below m and has no inverse modulo m
pub record IsWithoutInverse (m a : ℕ) : Type 0 where
  pub nonzero : a ≢ 0
  pub below : a < m
  pub none : (x : ℕ) → IsInverse m a x → ⊥
