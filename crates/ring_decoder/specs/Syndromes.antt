-- The weights of the dual code, and its check matrix (MacWilliams and Sloane, The Theory of Error-Correcting Codes, 1977,
-- chapters 10 and 12).
use Rattle.std.specs.Prelude.{◌≡◌, ℕ, ◌+◌, ◌-◌, ◌*◌, ◌^◌, ◌<◌, ◌≤◌}
use Rattle.num_modular.specs.Congruence.{Congruent}
use Rattle.num_modular.specs.Inverses.{IsInverse}
use Rattle.ring_codes.specs.Prepared.{product_but}
use Rattle.ring_decoder.specs.PowerSums.{ArePowerSums}

-- the weights of n points x: of each the inverse of the product of its differences from the others
abbrev pub AreWeights : ℕ → ℕ → (ℕ → ℕ) → (ℕ → ℕ) → Type 0
AreWeights m n x v = (i : ℕ) → i < n → IsInverse m (product_but m n x i (x i)) (v i)

-- a table of t rows of n checks: each weight times a power of its point, the powers 0 of all points first (the check matrix)
pub record AreChecks (m t n : ℕ) (x v checks : ℕ → ℕ) : Type 0 where
  pub check : (h i : ℕ) → h < t → i < n → Congruent m (checks (h * n + i)) (v i * x i ^ h)

-- the t syndromes s of a word y of n symbols, for a code of messages of k symbols: the power sums with the weights times the
-- symbols
pub record AreSyndromes (m k n t : ℕ) (x v y s : ℕ → ℕ) : Type 0 where
  pub positive : 0 < m
  pub few : k ≤ n
  pub count : t ≡ n - k
  pub weights : AreWeights m n x v
  pub below : (i : ℕ) → i < n → y i < m
  pub small : (h : ℕ) → h < t → s h < m
  pub sums : ArePowerSums m t n x (λ i. v i * y i) s
