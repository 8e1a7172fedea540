-- Lists of words as lists of residues. The names are the library's own words.
use Rattle.std.specs.Prelude.{◌≡◌, ℕ, ◌%◌, ◌<◌, List, slice_index}
use Rattle.num_modular.specs.Transforms.{transform, cyclic_product}

-- the residue modulo m of the word at each index
abbrev pub residues : ℕ → List ℕ → ℕ → ℕ
residues m words i = slice_index words i % m

-- y are the n residues modulo m whose transform by g is x
pub record IsInverseTransform (m g n : ℕ) (x y : ℕ → ℕ) : Type 0 where
  pub values : (j : ℕ) → j < n → transform m g n y j ≡ x j
  pub only : (v : ℕ → ℕ) → ((j : ℕ) → j < n → transform m g n v j ≡ x j) → (i : ℕ) → i < n → y i ≡ v i % m

-- p is the cyclic product of the n values x and the n values y, and t the transform of y by g
pub record IsConvolution (m g n : ℕ) (x y p t : ℕ → ℕ) : Type 0 where
  pub product : (e : ℕ) → e < n → p e ≡ cyclic_product m n x y e
  pub transformed : (j : ℕ) → j < n → t j ≡ transform m g n y j
