-- Numbers by their residues, for the calls for C. The names are the library's own words.
use Rattle.std.specs.Prelude.{◌≡◌, ℕ, ◌<◌, List, length, slice_index}
use Rattle.num_modular.specs.Systems.{IsSystem, AreResidues, range_of}
use Rattle.residue_numbers.specs.MixedRadix.{IsCoprimeSystem}

-- the moduli are a system, and each residue is below its modulus
pub record AreReducedResidues (moduli residues : List ℕ) : Type 0 where
  pub count : length moduli ≡ length residues
  pub system : IsSystem moduli
  pub reduced : (i : ℕ) → i < length moduli → slice_index residues i < slice_index moduli i

-- x is the only number below the product of the moduli that has the residues
pub record IsDecoded (moduli residues : List ℕ) (x : ℕ) : Type 0 where
  pub below : x < range_of moduli
  pub number : AreResidues moduli residues x
  pub only : (y : ℕ) → y < range_of moduli → AreResidues moduli residues y → y ≡ x

-- each modulus is above 0
abbrev pub ArePositive : List ℕ → Type 0
ArePositive moduli = (i : ℕ) → i < length moduli → 0 < slice_index moduli i

-- the moduli are coprime in pairs, and each has a residue below it; their product may be of any size
pub record AreLongReducedResidues (moduli residues : List ℕ) : Type 0 where
  pub count : length residues ≡ length moduli
  pub reduced : (i : ℕ) → i < length moduli → slice_index residues i < slice_index moduli i
  pub coprime : IsCoprimeSystem moduli

-- each of n moduli has a place for a digit and one for an inverse
pub record HasDigitRoom (n digits inverses : ℕ) : Type 0 where
  pub digit_places : digits ≡ n
  pub inverse_places : inverses ≡ n
