-- Power sums with weights (the syndromes of a word and the moments of its errors are such sums: Reeds and Sloane, "Shift-register
-- synthesis (modulo m)", SIAM Journal on Computing 14, 1985).
use Rattle.std.specs.Prelude.{ℕ, ◌*◌, ◌^◌, ◌%◌, ◌<◌}
use Rattle.num_modular.specs.Congruence.{Congruent}
use Rattle.num_modular.specs.Sums.{sum_below}
use Rattle.ring_codes.specs.Erasure.{distance}

-- the first N numbers t are modulo m the power sums of n points x with weights w: t 0 = w 0 + w 1 + .., t 1 = w 0·x 0 + w 1·x 1 + .., ..
pub record ArePowerSums (m N n : ℕ) (x w t : ℕ → ℕ) : Type 0 where
  pub sum : (h : ℕ) → h < N → Congruent m (t h) (sum_below n (λ i. w i * x i ^ h))

-- how many of the n weights aren't 0 modulo m (Hamming's weight)
abbrev pub hamming_weight : ℕ → ℕ → (ℕ → ℕ) → ℕ
hamming_weight m n w = distance n (λ i. w i % m) (λ i. 0)
