-- The stages of a transform in place: blocks of h + h values, in which the values h apart form pairs (Gentleman and
-- Sande, "Fast Fourier transforms: for fun and profit", section 2). The names are the library's own words.
use Rattle.std.specs.Prelude.{◌≡◌, ◌≢◌, ℕ, ◌+◌, ◌*◌, ◌%◌, ◌^◌, ◌<◌, pos, ◌-ℤ◌}
use Rattle.modular_word.specs.Congruence.{Congruent}
use Rattle.modular_word.specs.Residues.{residue}
use Rattle.modular_reduced.specs.Forms.{IsForm}

-- the values a and b become their sum, and their difference times a power
pub record IsPair (m power a b sum difference : ℕ) : Type 0 where
  pub summed : Congruent m sum (a + b)
  pub subtracted : Congruent m (difference + b * power) (a * power)

-- the index of the first value of the pair of column i in block p
abbrev pub low : ℕ → ℕ → ℕ → ℕ
low h p i = p * (h + h) + i

-- the index of its second value
abbrev pub high : ℕ → ℕ → ℕ → ℕ
high h p i = p * (h + h) + (h + i)

-- from the values x to the values y, the pair at two indexes is done and nothing else changes
pub record PairDone (m power first second : ℕ) (x y : ℕ → ℕ) : Type 0 where
  pub pair : IsPair m power (x first) (x second) (y first) (y second)
  pub kept : (k : ℕ) → k ≢ first → k ≢ second → y k ≡ x k

-- from the values x to the values y, a stage with the root w is done: every pair, in column i by w^i
pub record IsStage (m w h blocks : ℕ) (x y : ℕ → ℕ) : Type 0 where
  pub pairs : (p i : ℕ) → p < blocks → i < h
      → IsPair m (w ^ i) (x (low h p i)) (x (high h p i)) (y (low h p i)) (y (high h p i))

-- two stages, one after the other, the second in twice as many blocks and half as many columns, h
pub record IsTwoStages (m w v h blocks : ℕ) (x z : ℕ → ℕ) : Type 0 where
  pub between : ℕ → ℕ
  pub first : IsStage m w (h + h) blocks x between
  pub second : IsStage m v h (blocks + blocks) between z

-- a difference modulo m times a power
abbrev pub weighted : ℕ → ℕ → ℕ → ℕ → ℕ
weighted m power a b = (residue m (pos a -ℤ pos b) * power) % m

-- from the values x to the values z, those at the index k and 1, 2 and 3 steps after it are done through two
-- stages: the pairs two steps apart by the powers p and q, and then the pairs one step apart by s
pub record IsFour (m p q s step k : ℕ) (x z : ℕ → ℕ) : Type 0 where
  pub sums : IsPair m s ((x k + x (k + 2 * step)) % m) ((x (k + step) + x (k + 3 * step)) % m) (z k) (z (k + step))
  pub differences : IsPair m s (weighted m p (x k) (x (k + 2 * step))) (weighted m q (x (k + step)) (x (k + 3 * step)))
      (z (k + 2 * step)) (z (k + 3 * step))

-- four values are done through two stages, and nothing else changes
pub record FourDone (m p q s step k : ℕ) (x z : ℕ → ℕ) : Type 0 where
  pub four : IsFour m p q s step k x z
  pub kept : (i : ℕ) → i ≢ k → i ≢ k + step → i ≢ k + 2 * step → i ≢ k + 3 * step → z i ≡ x i

-- the powers p, q and s of two stages of four values are checked forms
pub record ArePowers (form value : ℕ → ℕ → ℕ) (m p q s : ℕ) : Type 0 where
  pub first : IsForm form value m p
  pub second : IsForm form value m q
  pub both : IsForm form value m s
