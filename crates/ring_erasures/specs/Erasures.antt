-- Symbols lost at known places, and the polynomial whose roots are the points there (Didier, "Efficient erasure decoding of
-- Reed-Solomon codes", 2009; Soro and Lacan, "FNT-based Reed-Solomon erasure codes", 2010).
use Rattle.std.specs.Prelude.{◌≡◌, ◌≢◌, ℕ, suc, ◌+◌, ◌*◌, ◌%◌, ◌<◌, ◌≤◌, List, length, slice_index, pos, ◌-ℤ◌, ◌==◌, if◌then◌else◌}
use Rattle.num_modular.specs.Inverses.{IsInverse}
use Rattle.num_modular.specs.Products.{product_below}
use Rattle.num_modular.specs.Residues.{residue}
use Rattle.num_modular.specs.Transforms.{Suits}
use Rattle.ring_codes.specs.Erasure.{ArePlaces, IsErasureCodeword}
use Rattle.ring_codes.specs.Roots.{product_of_differences}
use Rattle.ring_codes.specs.declared.erasure.RestoreError.{RestoreError}
use Rattle.ring_codes.specs.declared.erasure.RestoreError.TheVariants.{TooFewSymbols, PlaceOutOfRange, PlaceTwice, PointsDontFit}

-- no symbol is lost at place i
abbrev pub IsKept : List ℕ → ℕ → Type 0
IsKept lost i = (l : ℕ) → l < length lost → slice_index lost l ≢ i

-- two words of n symbols agree at each place where none is lost
abbrev pub AgreeAtKept : ℕ → List ℕ → (ℕ → ℕ) → (ℕ → ℕ) → Type 0
AgreeAtKept n lost a b = (i : ℕ) → i < n → IsKept lost i → a i ≡ b i

-- the lost places are below n and distinct, and at least k others are left
pub record AreErased (k n : ℕ) (lost : List ℕ) : Type 0 where
  pub enough : k + length lost ≤ n
  pub places : ArePlaces (length lost) n lost

-- the meaning of an error, for a root with the value g: fewer than k symbols are left, then what is wrong first with the
-- places; or these are right, and the modulus is even or g doesn't suit n
abbrev pub IsErasureFault : ℕ → ℕ → ℕ → ℕ → List ℕ → RestoreError → Type 0
IsErasureFault m g k n lost TooFewSymbols = n < k + length lost
IsErasureFault m g k n lost PlaceOutOfRange =
    (i : ℕ) × (i < length lost) × (k + length lost ≤ n) × ArePlaces i n lost × (n ≤ slice_index lost i)
IsErasureFault m g k n lost PlaceTwice = (i : ℕ) × (j : ℕ) × (i < j) × (j < length lost) × (k + length lost ≤ n)
    × ArePlaces j n lost × (slice_index lost i ≡ slice_index lost j)
IsErasureFault m g k n lost PointsDontFit = AreErased k n lost × (m % 2 ≡ 1 → Suits m g n → ⊥)

-- the value at the root z l of the derivative of the product of X - z for the c points z: the product of the differences of
-- z l from the other points
abbrev pub root_weight : ℕ → ℕ → (ℕ → ℕ) → ℕ → ℕ
root_weight m c z l = product_below c (λ j. if j == l then 1 else residue m (pos (z l) -ℤ pos (z j)))

-- a factor for each of n points x: the locator's value where no symbol is lost, the inverse of its derivative's where one is
pub record AreFactors (m n : ℕ) (x : ℕ → ℕ) (lost : List ℕ) (factors : ℕ → ℕ) : Type 0 where
  pub kept : (i : ℕ) → i < n → IsKept lost i
      → factors i ≡ product_of_differences m (length lost) (λ l. x (slice_index lost l)) (x i) % m
  pub erased : (l : ℕ) → l < length lost
      → IsInverse m (root_weight m (length lost) (λ l. x (slice_index lost l)) l) (factors (slice_index lost l))

-- of n symbols y each times its factor u, and 0 where a symbol is lost, modulo m
pub record AreKeptProducts (m n : ℕ) (lost : List ℕ) (y u products : ℕ → ℕ) : Type 0 where
  pub zeros : (l : ℕ) → l < length lost → products (slice_index lost l) ≡ 0
  pub each : (i : ℕ) → i < n → IsKept lost i → products i ≡ (y i * u i) % m
  pub below : (i : ℕ) → i < n → products i < m

-- from the values old to the values new: v l stands at lost place number l for the first c of them, and no other is changed
pub record IsScattered (c : ℕ) (lost : List ℕ) (v old new : ℕ → ℕ) : Type 0 where
  pub there : (l : ℕ) → l < c → new (slice_index lost l) ≡ v l
  pub kept : (i : ℕ) → ((l : ℕ) → l < c → slice_index lost l ≢ i) → new i ≡ old i

-- the coefficients of the derivative of a polynomial
abbrev pub derivative : (ℕ → ℕ) → ℕ → ℕ
derivative p i = suc i * p (suc i)

-- some word of the code has the symbols that are left
abbrev pub IsRestorable : ℕ → ℕ → ℕ → (ℕ → ℕ) → List ℕ → (ℕ → ℕ) → Type 0
IsRestorable m k n x lost symbols =
    (word : ℕ → ℕ) × IsErasureCodeword m k n x word × AgreeAtKept n lost symbols word
