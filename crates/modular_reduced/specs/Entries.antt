-- Entries of lists of forms: the value at each index, and how far a loop that writes entry after entry has come.
-- The names are the library's own words.
use Rattle.std.specs.Prelude.{◌≡◌, ℕ, ◌<◌, ◌≤◌, List, slice_index, slice_index_or}
use Rattle.modular_reduced.specs.Forms.{IsForm}
use Rattle.modular_reduced.specs.Values.{values_of}

-- the value of the form at index i; 0 after the last
abbrev pub entry : {T : Type 0} → (T → ℕ) → (ℕ → ℕ → ℕ) → ℕ → List T → ℕ → ℕ
entry number value m forms i = slice_index (values_of number value m forms) i

-- the word f is the checked form of the value v
pub record IsCheckedFormOf (form value : ℕ → ℕ → ℕ) (m f v : ℕ) : Type 0 where
  pub checked : IsForm form value m f
  pub same : value m f ≡ v

-- at each index k before i stands the form of the value v k
pub record HoldBelow {T : Type 0} (number : T → ℕ) (form value : ℕ → ℕ → ℕ) (m : ℕ) (forms : List T)
    (v : ℕ → ℕ) (i : ℕ) : Type 0 where
  pub each : (k : ℕ) (d : T) → k < i → IsCheckedFormOf form value m (number (slice_index_or forms k d)) (v k)

-- from the values old to the values new: P holds at the indexes before i, and from i on nothing is changed
pub record DoneBelow (P : ℕ → ℕ → Type 0) (i : ℕ) (old new : ℕ → ℕ) : Type 0 where
  pub done : (k : ℕ) → k < i → P k (new k)
  pub kept : (k : ℕ) → i ≤ k → new k ≡ old k

-- from the values old to the values new: P holds at the indexes from i to n - 1, and before i nothing is changed
pub record DoneFrom (P : ℕ → ℕ → Type 0) (i n : ℕ) (old new : ℕ → ℕ) : Type 0 where
  pub done : (k : ℕ) → i ≤ k → k < n → P k (new k)
  pub kept : (k : ℕ) → k < i → new k ≡ old k
