-- The dual of a Reed-Solomon code: the weighted power sums of a word of the code are 0, and no other word's are
-- (MacWilliams and Sloane, The Theory of Error-Correcting Codes, 1977, chapters 10 and 12).
use Rattle.std.proofs.Common.{◌≡◌, ℕ, zero, suc, ◌+◌, ◌-◌, ◌*◌, ◌%◌, ◌^◌, ◌<◌, ◌≤◌, ap, sym, arith, refl, mod-lt, pos}
use Rattle.std.proofs.Common.{◌-ℤ◌}
use Rattle.num_modular.specs.Callers.{same_coefficients, has_both}
use Rattle.num_modular.specs.Congruence.{Congruent}
use Rattle.num_modular.specs.Inverses.{HasInverse}
use Rattle.num_modular.specs.NumberLaws.{mod_of_eq, residue_of, mod_sym, mod_trans, mod_add, equal_below}
use Rattle.num_modular.specs.NumberLaws.{sum_below-congruent, sum_below-of_zeros, sum_below-add, sum_below-joined}
use Rattle.num_modular.specs.NumberLaws.{sum_below-bounded}
use Rattle.num_modular.specs.Polynomials.{polynomial_at, HaveUnitDifferences}
use Rattle.num_modular.specs.Residues.{residue}
use Rattle.num_modular.specs.SumLaws.{single}
use Rattle.num_modular.specs.Sums.{sum_below}
use Rattle.ring_codes.specs.Erasure.{IsErasureCodeword, distance}
use Rattle.ring_codes.specs.Prepared.{product_but}
use Rattle.ring_codes.proofs.Counts.{fit_front}
use Rattle.ring_codes.proofs.Distances.{extended_sequence, at_end, before_end, counted, counted_most, no_distance}
use Rattle.ring_codes.proofs.Lagrange.{none_at, message_of}
use Rattle.ring_codes.proofs.NearestWords.{unit_alike}
use Rattle.ring_decoder.specs.PowerSums.{ArePowerSums}
use Rattle.ring_decoder.specs.Syndromes.{AreWeights}
use Rattle.ring_decoder.proofs.SyndromeSums.{combined_power_sums_evaluate_polynomial}
use Rattle.ring_decoder.proofs.SyndromeRoots.{product_monic, combination_of_monics_is_polynomial}
use Rattle.ring_codes.proofs.Congruences.{mod_of_combination, mod_of_difference, mod_of_inverse, mod_of_residue}
use Rattle.ring_codes.proofs.Congruences.{mod_times, has_one}
use Rattle.ring_decoder.proofs.LocatorSums.{factor_none, residue_none, weights_none}

-- the polynomial X^e
power_value : (n e X : ℕ) → e < n → polynomial_at n (extended_sequence e 1 (λ i. 0)) X ≡ X ^ e
power_value n e X l =
    let p : ℕ → ℕ = extended_sequence e 1 (λ i. 0) in
    let alone = single n e (λ i. p i * X ^ i) l (λ i b other. rw (before_end e 1 (λ i. 0) i other) (omega arith)) in
    omega (arith, alone, ap (λ v. v * X ^ e) (at_end e 1 (λ i. 0) e refl))

-- of d + 1 points with their weights, the sums of the powers below d are 0, and that of power d is 1
powers_sum : (m d e : ℕ) (x v : ℕ → ℕ) → 0 < m → HaveUnitDifferences m (suc d) x → AreWeights m (suc d) x v
    → e < suc d → Congruent m (extended_sequence e 1 (λ i. 0) d) (sum_below (suc d) (λ i. v i * x i ^ e))
powers_sum m d e x v positive fit weights small =
    let n : ℕ = suc d in let p : ℕ → ℕ = extended_sequence e 1 (λ i. 0) in let u : ℕ → ℕ = λ i. v i * x i ^ e in
    let whole = combination_of_monics_is_polynomial m d n u (product_but m n x)
    (λ i l. product_monic m d i x positive (omega arith)) in
    let at : (l : ℕ) → l < n → Congruent m (polynomial_at n whole.0 (x l)) (polynomial_at n p (x l)) =
    λ l b.
    let alone = single n l (λ i. u i * product_but m n x i (x l)) b
    (λ i c other. omega (arith, ap (λ w. u i * w) (none_at m n i l x c b (λ e. other (sym e))))) in
    mod_of_combination (mod_add (whole.2 (x l)) (mod_times (x l ^ e) (mod_of_inverse (weights l b))))
    (omega (arith, alone, power_value n e (x l) small)) in
    mod_sym (mod_trans (mod_of_eq (sym whole.1)) (same_coefficients m n whole.0 p x fit at d (omega arith)))

pub weighted_power_sum_vanishes : (m d e : ℕ) (x v : ℕ → ℕ) → 0 < m → HaveUnitDifferences m (suc d) x
    → AreWeights m (suc d) x v
    → e < d → Congruent m 0 (sum_below (suc d) (λ i. v i * x i ^ e))
weighted_power_sum_vanishes m d e x v positive fit weights small =
    mod_trans (mod_of_eq (sym (before_end e 1 (λ i. 0) d (omega arith))))
    (powers_sum m d e x v positive fit weights (omega arith))

pub top_power : (m d : ℕ) (x v : ℕ → ℕ) → 0 < m → HaveUnitDifferences m (suc d) x → AreWeights m (suc d) x v
    → Congruent m 1 (sum_below (suc d) (λ i. v i * x i ^ d))
top_power m d x v positive fit weights =
    mod_trans (mod_of_eq (sym (at_end d 1 (λ i. 0) d refl))) (powers_sum m d d x v positive fit weights (omega arith))

-- so the weights' power sums are 0
weights_vanish_below : (m n : ℕ) (x v : ℕ → ℕ) → 0 < m → HaveUnitDifferences m n x → AreWeights m n x v
    → ArePowerSums m (n - 1) n x v (λ h. 0)
weights_vanish_below m zero x v positive fit weights = record { sum = λ h l. absurd (omega arith) }
weights_vanish_below m (suc d) x v positive fit weights = record {
  sum = λ h l. weighted_power_sum_vanishes m d h x v positive fit weights (omega arith);
}

-- the syndromes of a word of the code are 0
pub codeword_without_syndromes : (m k n : ℕ) (x v y : ℕ → ℕ) → 0 < m → k ≤ n → HaveUnitDifferences m n x
    → AreWeights m n x v → IsErasureCodeword m k n x y → ArePowerSums m (n - k) n x (λ i. v i * y i) (λ h. 0)
codeword_without_syndromes m k n x v y positive few fit weights (c, encoding) = record {
  sum = λ h l.
      mod_trans (mod_of_eq (sym (sum_below-of_zeros k (λ l. c l * 0) (λ i b. omega arith))))
      (mod_trans (combined_power_sums_evaluate_polynomial m (n - 1) n k h x v (λ h. 0) c
      (weights_vanish_below m n x v positive fit weights)
      (omega arith))
      (sum_below-congruent n _ _
      (λ i b. mod_of_combination (mod_times (v i * x i ^ h) (mod_sym (mod_of_residue (encoding.symbol i b))))
      (omega arith))));
}

-- power sums of two lists of weights and of their sums
pub sums_added : (m n h : ℕ) (x v a b c : ℕ → ℕ) → ((i : ℕ) → i < n → Congruent m (a i + b i) (c i))
    → Congruent m (sum_below n (λ i. v i * a i * x i ^ h) + sum_below n (λ i. v i * b i * x i ^ h))
    (sum_below n (λ i. v i * c i * x i ^ h))
sums_added m n h x v a b c each =
    mod_trans (mod_of_eq (sym (sum_below-add n (λ i. v i * a i * x i ^ h) (λ i. v i * b i * x i ^ h))))
    (sum_below-congruent n (λ i. v i * a i * x i ^ h + v i * b i * x i ^ h) (λ i. v i * c i * x i ^ h)
    (λ i l. mod_of_combination (mod_times (v i * x i ^ h) (each i l)) (omega arith)))

-- words whose first k symbols are the same
equal_prefix_bounds_distance : (k q n : ℕ) (a b : ℕ → ℕ) → k + q ≡ n → ((i : ℕ) → i < k → a i ≡ b i)
    → distance n a b ≤ q
equal_prefix_bounds_distance k q n a b whole same =
    let f : ℕ → ℕ = λ i. counted (a i) (b i) in
    omega (
      arith,
      ap (λ j. sum_below j f) whole,
      sum_below-joined k q f,
      no_distance k a b same,
      sum_below-bounded q 1 (λ i. f (k + i)) (λ i l. counted_most (a (k + i)) (b (k + i))),
    )

-- each weight has an inverse
pub each_weight_has_inverse : (m n i : ℕ) (x v : ℕ → ℕ) → AreWeights m n x v → i < n → HasInverse m (v i)
each_weight_has_inverse m n i x v weights l =
    let P : ℕ = product_but m n x i (x i) in let small = (weights i l).below in
    ((has_both m P (v i)).0 (unit_alike m (1 % m) (P * v i)
    (mod_trans (residue_of 1) (mod_sym (mod_of_inverse (weights i l)))) (has_one m (omega (arith, small))))).1

-- a word without syndromes is of the code: less the word of its first k symbols it has n - k other symbols, which are 0
pub codeword_by_syndromes : (m k n : ℕ) (x v y : ℕ → ℕ) → 0 < m → k ≤ n → HaveUnitDifferences m n x
    → AreWeights m n x v → ((i : ℕ) → i < n → y i < m) → ArePowerSums m (n - k) n x (λ i. v i * y i) (λ h. 0)
    → IsErasureCodeword m k n x y
codeword_by_syndromes m k n x v y positive few fit weights below none =
    let q : ℕ = n - k in
    let found = message_of m k x y positive (fit_front m n k x few fit) (λ i l. below i (omega arith)) in
    let z : ℕ → ℕ = λ i. polynomial_at k found.0 (x i) % m in let d : ℕ → ℕ = λ i. residue m (pos (y i) -ℤ pos (z i)) in
    let each : (i : ℕ) → i < n → Congruent m (d i + z i) (y i) = λ i l. mod_of_difference (z i) positive refl in
    let of_z = codeword_without_syndromes m k n x v z positive few fit weights (
      found.0,
      record {
        symbol =
            λ i l. refl;
      },
    ) in
    let first : (i : ℕ) → i < k → (v i * d i) % m ≡ 0 =
    λ i l.
    let same : y i ≡ z i = found.1.symbol i l in
    let none : Congruent m (d i) 0 = mod_of_combination (each i (omega arith)) (omega (arith, same)) in
    residue_none m (v i * d i) (mod_of_combination (mod_times (v i) none) (omega arith)) in
    let all = weights_none m n q x (λ i. v i * d i) positive fit
    (equal_prefix_bounds_distance k q n (λ i. (v i * d i) % m) (λ i. 0) (omega arith) first)
    (λ h l. mod_of_combination (mod_add (sums_added m n h x v d z y each) (mod_add (mod_sym (none.sum h l))
    (of_z.sum h l)))
    (omega arith)) in (
      found.0,
      record {
        symbol = λ i l.
            let zero = factor_none m (d i) (v i) (each_weight_has_inverse m n i x v weights l)
            (mod_of_combination (all i l) (omega arith)) in
            equal_below (below i l) (mod-lt (polynomial_at k found.0 (x i)) positive)
            (mod_of_combination (mod_add (mod_sym (each i l)) zero) (omega arith));
      },
    )
