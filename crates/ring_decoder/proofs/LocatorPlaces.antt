-- What a recurrence of power sums says of their weights and points: its polynomial is 0 at each point whose weight
-- isn't.
use Rattle.std.proofs.Common.{◌≡◌, ◌≢◌, ℕ, ◌+◌, ◌-◌, ◌*◌, ◌%◌, ◌^◌, ◌<◌, ◌≤◌, arith, inl, inr}
use Rattle.std.proofs.lemmas.Bool.{cases_lt}
use Rattle.num_modular.specs.Congruence.{Congruent}
use Rattle.num_modular.specs.NumberLaws.{mod_of_eq, mod_sym, mod_trans, sum_below-same}
use Rattle.num_modular.specs.Polynomials.{polynomial_at, HaveUnitDifferences}
use Rattle.num_modular.specs.Sums.{sum_below}
use Rattle.ring_decoder.proofs.LocatorSums.{power_sum, hamming_weight_monotone, residue_none, sums_vanish, weights_none}
use Rattle.ring_decoder.specs.Locators.{IsRecurrence}
use Rattle.ring_decoder.specs.PowerSums.{ArePowerSums, hamming_weight}
use Rattle.ring_codes.proofs.Congruences.{mod_of_combination, mod_times}
use Rattle.ring_decoder.proofs.SyndromeSums.{combined_power_sums_evaluate_polynomial}

-- a polynomial with c coefficients, applied to the numbers t from h on
abbrev pub applied : ℕ → (ℕ → ℕ) → (ℕ → ℕ) → ℕ → ℕ
applied c s t h = sum_below c (λ l. s l * t (h + l))

module _ {m N n : ℕ} {x w t : ℕ → ℕ} (positive : 0 < m) (are : ArePowerSums m N n x w t) (L : ℕ) (s : ℕ → ℕ) where
  -- the weights times the polynomial's values
  abbrev valued : ℕ → ℕ
  valued j = w j * polynomial_at (L + 1) s (x j)

  valued_light : hamming_weight m n valued ≤ hamming_weight m n w
  valued_light = hamming_weight_monotone m n w valued
      (λ j b none. mod_of_combination (mod_times (polynomial_at (L + 1) s (x j)) none) (omega arith))

  -- the polynomial, applied to the power sums, gives those of these weights
  applied_sums : (h : ℕ) → h + L < N → Congruent m (applied (L + 1) s t h) (power_sum n x valued h)
  applied_sums h room =
      mod_trans (combined_power_sums_evaluate_polynomial m N n (L + 1) h x w t s are (omega arith))
      (mod_of_eq (sum_below-same n (λ i. w i * x i ^ h * polynomial_at (L + 1) s (x i)) (λ j. valued j * x j ^ h)
      (λ j b. omega arith)))

  values_none : {i : ℕ} → i ≤ N → IsRecurrence m i L s t → (h : ℕ) → h + L < i → Congruent m (power_sum n x valued h) 0
  values_none within recurrence h l = mod_trans (mod_sym (applied_sums h (omega arith))) (recurrence.sum h l)

  -- a recurrence of order L for i numbers, but not for i + 1, says that at least i + 1 - L weights aren't 0 (Massey)
  pub massey_bound : {i : ℕ} → i < N → IsRecurrence m i L s t → (h : ℕ) → h + L ≡ i → applied (L + 1) s t h % m ≢ 0
      → h + 1 ≤ hamming_weight m n w
  massey_bound inside recurrence h at other = elim (cases_lt h (hamming_weight m n w)) [
    | inl many ↦ omega (arith, many)
    | inr few ↦
        let vanish = sums_vanish m n h x valued positive (omega (arith, valued_light, few))
        (λ k l. values_none (omega (arith, inside)) recurrence k (omega (arith, l, at))) h in
        absurd (other (residue_none m _ (mod_trans (applied_sums h (omega (arith, inside, at))) vanish)))
  ]

  -- a recurrence for enough numbers: its polynomial is 0 at each point whose weight isn't
  pub weights_vanish : HaveUnitDifferences m n x → IsRecurrence m N L s t → hamming_weight m n w + L ≤ N
      → (j : ℕ) → j < n → Congruent m (w j * polynomial_at (L + 1) s (x j)) 0
  weights_vanish fit recurrence few =
      weights_none m n (N - L) x valued positive fit (omega (arith, valued_light, few))
      (λ h l. values_none (omega arith) recurrence h (omega (arith, l)))
