-- Syndromes at the powers of a root: the last coefficients of the polynomial through all symbols (Reed and Solomon,
-- "Polynomial codes over certain finite fields", 1960; Blahut, "Transform techniques for error control codes", IBM
-- Journal
-- of Research and Development 23, 1979).
use Rattle.std.proofs.Common.{◌≡◌, ◌≢◌, ℕ, zero, suc, ◌+◌, ◌-◌, ◌*◌, ◌/◌, ◌%◌, ◌^◌, ◌<◌, ◌≤◌, pos, ◌-ℤ◌, ap, sym, subst}
use Rattle.std.proofs.Common.{◌∙◌, arith, refl, inl, inr}
use Rattle.std.proofs.Math.Nat.{pow-zero, pow-suc}
use Rattle.std.proofs.lemmas.Bool.{cases_lt}
use Rattle.std.proofs.lemmas.Nat.{pow-add, pow_pos}
use Rattle.num_modular.specs.Congruence.{Congruent}
use Rattle.num_modular.specs.Inverses.{HasInverse}
use Rattle.num_modular.specs.NumberLaws.{mod_of_eq, mod_refl, mod_sym, mod_trans, mod_add, mod_pow}
use Rattle.num_modular.specs.NumberLaws.{sum_below-congruent, pow-mul, one-pow}
use Rattle.num_modular.specs.Polynomials.{polynomial_at, HaveUnitDifferences}
use Rattle.num_modular.specs.ProductLaws.{has_both}
use Rattle.num_modular.specs.Residues.{residue}
use Rattle.num_modular.specs.Sums.{sum_below}
use Rattle.num_modular.specs.Transforms.{Suits, transform}
use Rattle.ring_codes.proofs.Congruences.{has_one, mod_of_combination, mod_of_difference, mod_of_residue, mod_times}
use Rattle.ring_codes.proofs.NearestWords.{unit_alike}
use Rattle.ring_codes.proofs.NewtonForms.{has_of_residue}
use Rattle.ring_codes.proofs.RootPowers.{word_of_coefficients}
use Rattle.ring_codes.specs.Erasure.{IsEncoding}
use Rattle.ring_codes.specs.Powers.{ArePowers}
use Rattle.ring_decoder.proofs.DualCode.{weighted_power_sum_vanishes, top_power}
use Rattle.ring_decoder.proofs.LocatorSums.{none_of}
use Rattle.ring_decoder.proofs.SyndromeSums.{combined_power_sums_evaluate_polynomial, single_congruent}
use Rattle.ring_decoder.specs.PowerSums.{ArePowerSums}
use Rattle.ring_decoder.specs.Syndromes.{AreWeights}

powers_of_two : (m z : ℕ) → 0 < m → HasInverse m 2 → HasInverse m (2 ^ z)
powers_of_two m zero positive two = has_of_residue m (2 ^ 0) (1 % m) refl (has_one m positive)
powers_of_two m (suc y) positive two =
    subst (HasInverse m) (sym (pow-suc 2 y)) ((has_both m (2 ^ y) 2).1 (powers_of_two m y positive two, two))

-- where g suits n, and the differences of its powers have inverses, as that of 1 and -1, so has n
pub length_has_inverse_by_differences : (m g n : ℕ) (x : ℕ → ℕ) → 0 < m → Suits m g n → ArePowers m g n x
    → HaveUnitDifferences m n x
    → HasInverse m n
length_has_inverse_by_differences m g n x positive suits powers fit = elim (cases_lt 1 n) [
  | inl more ↦
      let h : ℕ = n / 2 in let u : ℕ = residue m (pos (x 0) -ℤ pos (x h)) in
      let turn = none_of m (g ^ h + 1) (suits.half_turn more) in
      let at_u : Congruent m (u + x h) (x 0) = mod_of_difference (x h) positive refl in
      let first = mod_of_residue (powers.power 0 (omega (arith, more))) in
      let middle = mod_of_residue (powers.power h (omega (arith, more))) in
      let two : Congruent m u 2 =
      mod_of_combination (mod_add at_u (mod_add first (mod_add (mod_sym turn) (mod_sym middle))))
      (omega (arith, pow-zero g)) in
      subst (HasInverse m) (sym suits.power_of_two.1) (powers_of_two m suits.power_of_two.0 positive
      (unit_alike m u 2 two (fit.unit 0 h (omega (arith, more)) (omega (arith, more)) (omega (arith, more)))))
  | inr one ↦
      let some = pow_pos suits.power_of_two.0 in let whole = suits.power_of_two.1 in
      has_of_residue m n (1 % m) (let e : 1 ≡ n = omega (arith, one, some, whole) in ap (λ v. v % m) e)
      (has_one m positive)
]

-- where g suits n, its power n is 1
root_turn : (m g n z : ℕ) → Suits m g n → n ≡ 2 ^ z → 1 < n → Congruent m (g ^ n) 1
root_turn m g n zero suits whole more = let one : 2 ^ 0 ≡ 1 = refl in absurd (omega (arith, whole, one, more))
root_turn m g n (suc y) suits whole more =
    let h : ℕ = n / 2 in let double : n ≡ h + h = omega (arith, whole, pow-suc 2 y) in
    let turn = none_of m (g ^ h + 1) (suits.half_turn more) in
    mod_of_combination (mod_add (mod_times (g ^ h) turn) (mod_sym turn))
    (omega (arith, ap (λ v. g ^ v) double ∙ pow-add g h h))

-- and so is that of each of its powers
pub point_turn : (m g n i : ℕ) (x : ℕ → ℕ) → Suits m g n → ArePowers m g n x → i < n → Congruent m (x i ^ n) 1
point_turn m g n i x suits powers l =
    let swap : (g ^ i) ^ n ≡ (g ^ n) ^ i =
    (let e : i * n ≡ n * i = omega arith in sym (pow-mul g i n) ∙ ap (λ v. g ^ v) e ∙ pow-mul g n i) in
    mod_trans (mod_pow n (mod_of_residue (powers.power i l))) (mod_trans (mod_of_eq swap)
    (elim (cases_lt 1 n) [
      | inl more ↦ mod_trans (mod_pow i (root_turn m g n suits.power_of_two.0 suits suits.power_of_two.1 more))
          (mod_of_eq (one-pow i))
      | inr one ↦ let first : i ≡ 0 = omega (arith, one, l) in rw first (mod_of_eq (pow-zero (g ^ n)))
    ]))

-- a coefficient of the polynomial through all symbols is a syndrome, the last one number 0
pub syndrome_of_coefficient : (m d h : ℕ) (x v c w : ℕ → ℕ) → 0 < m → h < suc d → HaveUnitDifferences m (suc d) x
    → AreWeights m (suc d) x v → ((i : ℕ) → i < suc d → Congruent m (x i ^ suc d) 1)
    → IsEncoding m (suc d) (suc d) x c w
    → Congruent m (c (d - h)) (sum_below (suc d) (λ i. v i * w i * x i ^ h))
syndrome_of_coefficient m d h x v c w positive row fit weights turn encoding =
    let n : ℕ = suc d in let t : ℕ → ℕ = λ e. sum_below n (λ i. v i * x i ^ e) in
    let whole = combined_power_sums_evaluate_polynomial m (h + n) n n h x v t c (record { sum = λ e l. mod_refl (t e) })
    (omega arith) in
    let early : (e : ℕ) → e < d → Congruent m (t e) 0 =
    λ e l. mod_sym (weighted_power_sum_vanishes m d e x v positive fit weights l) in
    let late : (e : ℕ) → e < d → Congruent m (t (e + n)) 0 =
    λ e l. mod_trans (sum_below-congruent n (λ i. v i * x i ^ (e + n)) (λ i. v i * x i ^ e)
    (λ i b. mod_of_combination (mod_times (v i * x i ^ e) (turn i b))
    (omega (arith, ap (λ a. v i * a) (pow-add (x i) e n)))))
    (early e l) in
    let others : (l : ℕ) → l < n → l ≢ d - h → Congruent m (c l * t (h + l)) 0 =
    λ l b other. mod_of_combination (mod_times (c l) (elim (cases_lt (h + l) d) [
      | inl less ↦ early (h + l) less
      | inr more ↦
          let e : ℕ = h + l - n in let at : h + l ≡ e + n = omega (arith, more, other, row, b) in
          rw at (late e (omega (arith, at, row, b)))
    ])) (omega arith) in
    let alone = single_congruent m n (d - h) (λ l. c l * t (h + l)) (omega arith) others in
    let at : h + (d - h) ≡ d = omega (arith, row) in
    mod_trans (mod_of_combination (mod_add (mod_sym alone)
    (mod_add whole (mod_times (c (d - h)) (top_power m d x v positive fit weights))))
    (omega (arith, ap (λ k. c (d - h) * t k) at)))
    (sum_below-congruent n (λ i. v i * x i ^ h * polynomial_at n c (x i)) (λ i. v i * w i * x i ^ h)
    (λ i b. mod_of_combination (mod_times (v i * x i ^ h) (mod_sym (mod_of_residue (encoding.symbol i b))))
    (omega arith)))

-- the syndromes, from the coefficients that a transform back gives
pub syndromes_by_transform : (m g n t : ℕ) (x v c w s : ℕ → ℕ) → 0 < m → t ≤ n → Suits m g n → ArePowers m g n x
    → HaveUnitDifferences m n x → AreWeights m n x v → ((j : ℕ) → j < n → transform m g n c j ≡ w j)
    → ((h : ℕ) → h < t → s h ≡ c (n - 1 - h)) → ArePowerSums m t n x (λ i. v i * w i) s
syndromes_by_transform m g zero t x v c w s positive few suits powers fit weights values same =
    record { sum = λ h l. absurd (omega arith) }
syndromes_by_transform m g (suc d) t x v c w s positive few suits powers fit weights values same = record {
  sum = λ h l.
      let at : suc d - 1 - h ≡ d - h = omega arith in
      rw (same h l, at) (syndrome_of_coefficient m d h x v c w positive (omega (arith, l, few)) fit weights
      (λ i b. point_turn m g (suc d) i x suits powers b)
      (word_of_coefficients m g (suc d) (suc d) x c w (omega arith) powers values
      (λ i b k. absurd (omega (arith, b, k)))));
}
