-- Residue number systems (Garner, "The residue number system", IRE Transactions on Electronic
-- Computers 8, 1959; Knuth, The Art of Computer Programming, volume 2, section 4.3.2).
use Rattle.std.specs.Prelude.{◌≡◌, ℕ, ◌%◌, ◌^◌, ◌<◌, List, length, slice_index}
use Rattle.modular_word.specs.Divisors.{Coprime}
use Rattle.modular_ring.specs.Products.{product_below}

-- the range of the first n moduli, which is their product
abbrev pub range_below : ℕ → List ℕ → ℕ
range_below n moduli = product_below n (slice_index moduli)

-- the range of all moduli: the numbers below it have different residues
abbrev pub range_of : List ℕ → ℕ
range_of moduli = range_below (length moduli) moduli

-- the moduli are above 0, any two are coprime, and their product fits a word of 128 bits
pub record IsSystem (moduli : List ℕ) : Type 0 where
  pub positive : (i : ℕ) → i < length moduli → 0 < slice_index moduli i
  pub coprime : (i j : ℕ) → j < i → i < length moduli → Coprime (slice_index moduli j) (slice_index moduli i)
  pub fits : range_of moduli < 2 ^ 128

-- the residues are those of x
pub record AreResidues (moduli residues : List ℕ) (x : ℕ) : Type 0 where
  pub each : (i : ℕ) → i < length moduli → slice_index residues i ≡ x % slice_index moduli i
