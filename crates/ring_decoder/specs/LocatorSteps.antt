-- How far the search for a locator has come (Massey, "Shift-register synthesis and BCH decoding", IEEE Transactions on
-- Information Theory 15, 1969; without division as Burton, "Inversionless decoding of binary BCH codes", IEEE Transactions
-- on Information Theory 17, 1971).
use Rattle.std.specs.Prelude.{◌≡◌, ◌≢◌, ℕ, ◌+◌, ◌*◌, ◌%◌, ◌<◌, ◌≤◌, ◌⊎◌}
use Rattle.num_modular.specs.Congruence.{Congruent}
use Rattle.num_modular.specs.Inverses.{HasInverse}
use Rattle.num_modular.specs.Sums.{sum_below}
use Rattle.ring_decoder.specs.Locators.{IsRecurrence, IsGeometric, IsLinear, NeedWeights}

-- after i of N numbers u·x^h: the polynomials are 1 and 0, then -X and 1, with the pivot u, and then u·(x - X) and 1
abbrev pub IsSearchOfOne : ℕ → ℕ → ℕ → ℕ → ℕ → ℕ → (ℕ → ℕ) → (ℕ → ℕ) → Type 0
IsSearchOfOne m i L pivot u x s b =
    ((i ≡ 0) × (L ≡ 0) × Congruent m (s 0) 1 × Congruent m pivot 1)
    ⊎ ((i ≡ 1) × (L ≡ 1) × Congruent m (s 0) 0 × Congruent m (s 1 + 1) 0 × Congruent m (b 0) 1 × Congruent m pivot u)
    ⊎ ((2 ≤ i) × IsLinear m u x L s)

-- after i of N numbers t, the polynomial s of a recurrence of order L for them, and the polynomial b before L last changed,
-- which is no recurrence for the next number then: it gave the pivot there
pub record IsSearch (m N i L pivot witness : ℕ) (s b t : ℕ → ℕ) : Type 0 where
  pub within : L ≤ i
  pub short : 2 * L ≤ N
  pub behind : (l : ℕ) → L < l → Congruent m (s l) 0
  pub recurrence : IsRecurrence m i L s t
  pub least : NeedWeights m N L t
  pub behind_before : (l : ℕ) → L ≤ l → Congruent m (b l) 0
  pub behind_then : (l : ℕ) → i < l + L → Congruent m (b l) 0
  pub recurrence_before : (h : ℕ) → h + 1 < L → Congruent m (sum_below L (λ l. b l * t (h + l))) 0
  pub pivot_there : (h : ℕ) → h + 1 ≡ L → Congruent m (sum_below L (λ l. b l * t (h + l))) pivot
  pub units : HasInverse m witness → HasInverse m pivot × HasInverse m (s L)
  pub nonzero : m ≢ 1 → witness ≢ 0
  pub of_one : (u x : ℕ) → IsGeometric m N u x t → IsSearchOfOne m i L pivot u x s b

-- new = a·old - b·X^q·g, at coefficient k
pub record IsCombined (m a b q k old new : ℕ) (g : ℕ → ℕ) : Type 0 where
  pub low : k < q → Congruent m new (a * old)
  pub high : (l : ℕ) → k ≡ q + l → Congruent m (new + b * g l) (a * old)
