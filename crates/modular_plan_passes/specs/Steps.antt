-- The steps of a split in place, and what they share with those of a join: pairs of entries, the blocks that they
-- form, and stages of blocks (Cooley and Tukey, "An algorithm for the machine calculation of complex Fourier
-- series", 1965). The names are the library's own words.
use Rattle.std.specs.Prelude.{◌≡◌, ◌≢◌, ℕ, ◌+◌, ◌*◌, ◌^◌, ◌<◌, ◌≤◌}
use Rattle.modular_word.specs.Congruence.{Congruent}
use Rattle.modular_word.specs.Sums.{sum_below}
use Rattle.modular_plan_passes.specs.Plans.{constant}

-- a and b become a + b * w and a - b * w
pub record IsPairSplit (m w a b sum difference : ℕ) : Type 0 where
  pub summed : Congruent m sum (a + b * w)
  pub subtracted : Congruent m (difference + b * w) a

-- a, b, c and d, a quarter of a block apart, are split by w, and the results by u and by v
pub record IsFourSplit (m w u v a b c d a' b' c' d' : ℕ) : Type 0 where
  pub e : ℕ
  pub f : ℕ
  pub g : ℕ
  pub h : ℕ
  pub first : IsPairSplit m w a c e g
  pub second : IsPairSplit m w b d f h
  pub low : IsPairSplit m u e f a' b'
  pub high : IsPairSplit m v g h c' d'

-- from the entries x to the entries y, the pair at two indexes is done and nothing else changes; R says what
-- becomes of a pair
pub record PairDone (R : ℕ → ℕ → ℕ → ℕ → Type 0) (low high : ℕ) (x y : ℕ → ℕ) : Type 0 where
  pub pair : R (x low) (x high) (y low) (y high)
  pub kept : (k : ℕ) → k ≢ low → k ≢ high → y k ≡ x k

-- the first pairs of the block of half + half entries from index first on are done, and nothing else changes
pub record BlockDone (R : ℕ → ℕ → ℕ → ℕ → Type 0) (first half done : ℕ) (x y : ℕ → ℕ) : Type 0 where
  pub pairs : (i : ℕ) → i < done → R (x (first + i)) (x (first + (half + i))) (y (first + i)) (y (first + (half + i)))
  pub kept : (k : ℕ) → ((i : ℕ) → i < done → k ≢ first + i) → ((i : ℕ) → i < done → k ≢ first + (half + i)) → y k ≡ x k

-- the first blocks of half + half entries are done, block p by R p, and the other entries are unchanged
pub record StageDone (R : ℕ → ℕ → ℕ → ℕ → ℕ → Type 0) (half blocks : ℕ) (x y : ℕ → ℕ) : Type 0 where
  pub pairs : (p i : ℕ) → p < blocks → i < half
      → R p (x (p * (half + half) + i)) (x (p * (half + half) + (half + i))) (y (p * (half + half) + i))
      (y (p * (half + half) + (half + i)))
  pub kept : (k : ℕ) → blocks * (half + half) ≤ k → y k ≡ x k

-- from the entries x to the entries y, the entries at four indexes are done and nothing else changes
pub record FourDone (R : ℕ → ℕ → ℕ → ℕ → ℕ → ℕ → ℕ → ℕ → Type 0) (i j k l : ℕ) (x y : ℕ → ℕ) : Type 0 where
  pub four : R (x i) (x j) (x k) (x l) (y i) (y j) (y k) (y l)
  pub kept : (e : ℕ) → e ≢ i → e ≢ j → e ≢ k → e ≢ l → y e ≡ x e

-- column i of the block of four times q entries from index first on is done, and nothing else changes
abbrev pub FourAt : (ℕ → ℕ → ℕ → ℕ → ℕ → ℕ → ℕ → ℕ → Type 0) → ℕ → ℕ → ℕ → (ℕ → ℕ) → (ℕ → ℕ) → Type 0
FourAt R first q i x y =
    R (x (first + i)) (x (first + (q + i))) (x (first + (q + q + i))) (x (first + (q + q + (q + i))))
    (y (first + i)) (y (first + (q + i))) (y (first + (q + q + i))) (y (first + (q + q + (q + i))))

-- the first columns of that block are done, and nothing else changes
pub record BlockOfFours (R : ℕ → ℕ → ℕ → ℕ → ℕ → ℕ → ℕ → ℕ → Type 0) (first q done : ℕ) (x y : ℕ → ℕ) : Type 0 where
  pub fours : (i : ℕ) → i < done → FourAt R first q i x y
  pub others : (i : ℕ) → done ≤ i → i < q
      → (y (first + i) ≡ x (first + i)) × (y (first + (q + i)) ≡ x (first + (q + i)))
      × (y (first + (q + q + i)) ≡ x (first + (q + q + i)))
      × (y (first + (q + q + (q + i))) ≡ x (first + (q + q + (q + i))))
  pub before : (k : ℕ) → k < first → y k ≡ x k
  pub after : (k : ℕ) → first + (q + q + (q + q)) ≤ k → y k ≡ x k

-- the first blocks of four times q entries are done, block p by R p, and the other entries are unchanged
pub record StageOfFours (R : ℕ → ℕ → ℕ → ℕ → ℕ → ℕ → ℕ → ℕ → ℕ → Type 0) (q blocks : ℕ) (x y : ℕ → ℕ) : Type 0 where
  pub fours : (p i : ℕ) → p < blocks → i < q → FourAt (R p) (p * (q + q + (q + q))) q i x y
  pub kept : (k : ℕ) → blocks * (q + q + (q + q)) ≤ k → y k ≡ x k

-- the count blocks of size entries y are congruent to the remainders of the polynomial with the coefficients x
pub record IsLevel (m g z b count size : ℕ) (x y : ℕ → ℕ) : Type 0 where
  pub each : (j i : ℕ) → j < count → i < size
      → Congruent m (y (j * size + i)) (sum_below count (λ k. x (k * size + i) * constant g z (b * count + j) ^ k))
