-- Power sums of few weights: where as many sums are 0 as weights aren't, all sums and all weights are 0.
use Rattle.std.proofs.Common.{◌≡◌, ◌≢◌, ℕ, zero, suc, ◌+◌, ◌-◌, ◌*◌, ◌%◌, ◌^◌, ◌<◌, ◌≤◌, ap, sym, ◌∙◌, arith, inl, inr}
use Rattle.std.proofs.Math.Nat.{zero-mod, pow-suc}
use Rattle.std.proofs.lemmas.Bool.{cases_eq}
use Rattle.num_modular.specs.Congruence.{Congruent}
use Rattle.num_modular.specs.Inverses.{HasInverse}
use Rattle.num_modular.specs.NumberLaws.{mod_of_eq, mod_sym, mod_trans, mod_add, sum_below-zero, sum_below-suc}
use Rattle.num_modular.specs.NumberLaws.{sum_below-of_zeros}
use Rattle.num_modular.specs.Polynomials.{HaveUnitDifferences}
use Rattle.num_modular.specs.Sums.{sum_below}
use Rattle.ring_codes.proofs.Distances.{counted, counted_other}
use Rattle.ring_codes.proofs.Congruences.{left_alone, mod_of_combination, mod_of_inverse, mod_times}
use Rattle.ring_codes.proofs.Lagrange.{none_at, all_from_fit}
use Rattle.ring_codes.proofs.NearestWords.{at_root, unit_alike}
use Rattle.ring_decoder.specs.PowerSums.{hamming_weight}
use Rattle.ring_decoder.proofs.LostPlaces.{fewer_differences}
use Rattle.ring_decoder.proofs.SyndromeRoots.{product_monic}
use Rattle.ring_decoder.proofs.SyndromeSums.{weight_alone}

-- the sum of the weights times the powers of the points
abbrev pub power_sum : ℕ → (ℕ → ℕ) → (ℕ → ℕ) → ℕ → ℕ
power_sum n x u h = sum_below n (λ j. u j * x j ^ h)

pub none_of : (m a : ℕ) → a % m ≡ 0 → Congruent m a 0
none_of m a e = record { same = e ∙ sym (zero-mod m) }

pub residue_none : (m a : ℕ) → Congruent m a 0 → a % m ≡ 0
residue_none m a h = h.same ∙ zero-mod m

-- weights that are 0 wherever others are
pub hamming_weight_monotone : (m n : ℕ) (u v : ℕ → ℕ) → ((j : ℕ) → j < n → Congruent m (u j) 0 → Congruent m (v j) 0)
    → hamming_weight m n v ≤ hamming_weight m n u
hamming_weight_monotone m n u v keep =
    fewer_differences n (λ i. v i % m) (λ i. 0) (λ i. u i % m) (λ i. 0)
    (λ j l none. residue_none m (v j) (keep j l (none_of m (u j) none)))

-- the weights times X + a
next_sum : (n a h : ℕ) (x u : ℕ → ℕ)
    → power_sum n x (λ j. u j * (x j + a)) h ≡ power_sum n x u (suc h) + a * power_sum n x u h
unfolding sum_below
next_sum zero a h x u = omega arith
next_sum (suc n) a h x u = omega (arith, next_sum n a h x u, ap (λ v. u n * v) (pow-suc (x n) h))

module _ (m n : ℕ) (x u : ℕ → ℕ) where
  -- the last weight is 0
  without_last : (h : ℕ) → Congruent m (u n) 0 → Congruent m (power_sum (suc n) x u h) (power_sum n x u h)
  without_last h none =
      mod_of_combination (mod_times (x n ^ h) none) (omega (arith, sum_below-suc n (λ j. u j * x j ^ h)))

  -- the weights times X - x n, for the last point x n
  abbrev weights_times_last_difference : ℕ → ℕ
  weights_times_last_difference j = u j * (x j + (m - 1) * x n)

  rest_light : (k : ℕ) → u n % m ≢ 0 → hamming_weight m (suc n) u ≤ k
      → hamming_weight m n weights_times_last_difference + 1 ≤ k
  rest_light k other few =
      let l = hamming_weight_monotone m n u weights_times_last_difference
      (λ j b none. mod_of_combination (mod_times (x j + (m - 1) * x n) none) (omega arith)) in
      omega (arith, l, sum_below-suc n (λ i. counted (u i % m) 0), counted_other (u n % m) 0 other, few)

  rest_sum : (h : ℕ) → 0 < m
      → Congruent m (power_sum n x weights_times_last_difference h) (power_sum (suc n) x u (suc h) + (m - 1) * x
      n * power_sum (suc n) x u h)
  rest_sum h positive =
      let last = mod_times (u n * x n ^ h) (none_of m (x n + (m - 1) * x n) (at_root m (x n) positive)) in
      mod_of_combination (mod_sym last)
      (omega (
        arith,
        sum_below-suc n (λ j. weights_times_last_difference j * x j ^ h),
        next_sum (suc n) ((m - 1) * x n)
            h x u,
      ))

  -- the sums are 0 where the first is, and those of the weights_times_last_difference are
  sums_rise : 0 < m → Congruent m (power_sum (suc n) x u 0) 0
      → ((h : ℕ) → Congruent m (power_sum n x weights_times_last_difference h) 0)
      → (h : ℕ) → Congruent m (power_sum (suc n) x u h) 0
  sums_rise positive first rests zero = first
  sums_rise positive first rests (suc h) =
      left_alone m _ ((m - 1) * x n) (power_sum (suc n) x u h) 0 (mod_trans (mod_sym (rest_sum h positive)) (rests h))
      (sums_rise positive first rests h)

-- as many sums are 0 as weights aren't, so all are
pub sums_vanish : (m n k : ℕ) (x u : ℕ → ℕ) → 0 < m → hamming_weight m n u ≤ k
    → ((h : ℕ) → h < k → Congruent m (power_sum n x u h) 0) → (h : ℕ) → Congruent m (power_sum n x u h) 0
sums_vanish m zero k x u positive few none h = mod_of_eq (sum_below-zero (λ j. u j * x j ^ h))
sums_vanish m (suc n) k x u positive few none h = elim (cases_eq (u n % m) 0) [
  | inl z ↦
      let same : (h : ℕ) → Congruent m (power_sum (suc n) x u h) (power_sum n x u h) =
      λ h. without_last m n x u h (none_of m (u n) z) in
      mod_trans (same h) (sums_vanish m n k x u positive
      (omega (arith, sum_below-suc n (λ i. counted (u i % m) 0), few))
      (λ h l. mod_trans (mod_sym (same h)) (none h l)) h)
  | inr other ↦
      let light = rest_light m n x u k other few in
      sums_rise m n x u positive (none 0 (omega (arith, light)))
      (sums_vanish m n (k - 1) x (weights_times_last_difference m n x u) positive (omega (arith, light)) (λ h l.
      mod_of_combination (mod_add (rest_sum m n x u h positive) (mod_add (none (suc h) (omega (arith, l)))
      (mod_times ((m - 1) * x n) (none h (omega (arith, l)))))) (omega arith))) h
]

-- a factor with an inverse is left out
pub factor_none : (m a c : ℕ) → HasInverse m c → Congruent m (a * c) 0 → Congruent m a 0
factor_none m a c unit none =
    mod_of_combination (mod_add (mod_times unit.0 none) (mod_times a (mod_sym (mod_of_inverse unit.1)))) (omega arith)

-- .. and where the points' differences have inverses, all weights are 0
pub weights_none : (m n k : ℕ) (x u : ℕ → ℕ) → 0 < m → HaveUnitDifferences m n x → hamming_weight m n u ≤ k
    → ((h : ℕ) → h < k → Congruent m (power_sum n x u h) 0) → (j : ℕ) → j < n → Congruent m (u j) 0
weights_none m zero k x u positive fit few none j l = absurd (omega arith)
weights_none m (suc d) k x u positive fit few none j l =
    let p = product_monic m d j x positive (omega arith) in
    let alone = weight_alone m (suc d) j x u (λ h. 0) p.coefficient
    (record { sum = λ h b. mod_sym (sums_vanish m (suc d) k x u positive few none h) }) l
    (λ i b other. mod_trans (p.value (x i)) (mod_of_eq (none_at m (suc d) j i x l b other))) in
    factor_none m (u j) _ (unit_alike m _ _ (mod_sym (p.value (x j))) (all_from_fit m (suc d) x positive fit j l))
    (mod_trans (mod_sym alone) (mod_of_eq (sum_below-of_zeros (suc d) (λ l. p.coefficient l * 0) (λ l b. omega arith))))
