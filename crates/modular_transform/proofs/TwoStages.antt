-- Two stages at once are two stages.
use Rattle.std.proofs.Common.{◌≡◌, ℕ, ◌+◌, ◌-◌, ◌*◌, ◌/◌, ◌%◌, ◌^◌, ◌<◌, if◌then◌else◌}
use Rattle.std.proofs.Common.{sym, ◌∙◌, ap, refl, arith, inl, inr}
use Rattle.std.proofs.Math.Dec.{ltb}
use Rattle.std.proofs.lemmas.Bool.{cases_eq, lt-ltb, le-ltb}
use Rattle.std.proofs.lemmas.Nat.{mod-mul-add}
use Rattle.modular_transform.specs.Stages.{IsStage, IsTwoStages, weighted, low, high}
use Rattle.modular_transform.proofs.FourLemmas.{FoursDone, block_places_within_length}
use Rattle.modular_transform.proofs.PairLemmas.{pair_by_equal_values}
use Rattle.modular_transform.proofs.ValueLemmas.{sum_and_difference_are_pair}

-- the values after a stage with the root w, by their places
abbrev after : ℕ → ℕ → ℕ → (ℕ → ℕ) → ℕ → ℕ
after m w h x k = if ltb (k % (h + h)) h then (x k + x (k + h)) % m
    else weighted m (w ^ (k % (h + h) - h)) (x (k - h)) (x k)

after_low : (m w h q i k : ℕ) (x : ℕ → ℕ) → i < h → k ≡ q * (h + h) + i → after m w h x k ≡ (x k + x (k + h)) % m
after_low m w h q i k x l e = grind (arith, mod-mul-add, ltb, lt-ltb)

after_high : (m w h q i k : ℕ) (x : ℕ → ℕ) → i < h → k ≡ q * (h + h) + (h + i)
    → after m w h x k ≡ weighted m (w ^ i) (x (k - h)) (x k)
after_high m w h q i k x l e = grind (arith, mod-mul-add, ltb, le-ltb)

first_of_two : (m w h blocks n : ℕ) (x : ℕ → ℕ) → blocks * (4 * h) ≡ n → ((k : ℕ) → k < n → x k < m)
    → IsStage m w (h + h) blocks x (after m w (h + h) x)
first_of_two m w h blocks n x whole below = record {
  pairs = λ p i lp li.
      let fit = block_places_within_length p blocks h n lp whole in
      let a = low (h + h) p i in
      let b = high (h + h) p i in
      sum_and_difference_are_pair (x a) (x b) (w ^ i) _ _ (below a (omega (arith, fit))) (below b (omega (arith, fit)))
      (after_low m w (h + h) p i a x li refl ∙ ap (λ v. (x a + x v) % m) (omega arith))
      (after_high m w (h + h) p i b x li refl ∙ ap (λ v. weighted m (w ^ i) (x v) (x b)) (omega arith));
}

second_of_two : (m w v h blocks : ℕ) (x y : ℕ → ℕ)
    → FoursDone m w v h 0 blocks 0 h x y
    → IsStage m v h (blocks + blocks) (after m w (h + h) x) y
second_of_two m w v h blocks x y done = record {
  pairs = λ p i lp li.
      let q = p / 2 in
      let k = q * (4 * h) + i in
      let u = after m w (h + h) x in
      let four = done.fours q i (omega arith) (omega arith) (omega arith) li in
      elim (cases_eq (p % 2) 0) [
        | inl even ↦
            let e : p ≡ 2 * q = omega arith in
            let row : p * (h + h) ≡ q * (4 * h) = ap (λ v. v * (h + h)) e ∙ omega arith in
            let at_low : k ≡ low h p i = omega (arith, row) in
            let at_high : k + h ≡ high h p i = omega (arith, row) in
            pair_by_equal_values
            (ap (λ j. (x k + x j) % m) (omega arith) ∙ sym (after_low m w (h + h) q i k x (omega arith) (omega arith))
            ∙ ap u at_low)
            (ap (λ j. (x (k + h) + x j) % m) (omega arith)
            ∙ sym (after_low m w (h + h) q (h + i) (k + h) x (omega arith) (omega arith)) ∙ ap u at_high)
            (ap y at_low) (ap y at_high) four.sums
        | inr odd ↦
            let e : p ≡ 2 * q + 1 = omega arith in
            let row : p * (h + h) ≡ q * (4 * h) + 2 * h = ap (λ v. v * (h + h)) e ∙ omega arith in
            let at_low : k + 2 * h ≡ low h p i = omega (arith, row) in
            let at_high : k + 3 * h ≡ high h p i = omega (arith, row) in
            pair_by_equal_values
            (ap (λ j. weighted m (w ^ i) (x j) (x (k + 2 * h))) (omega arith)
            ∙ sym (after_high m w (h + h) q i (k + 2 * h) x (omega arith) (omega arith)) ∙ ap u at_low)
            (ap (λ j. weighted m (w ^ (h + i)) (x j) (x (k + 3 * h))) (omega arith)
            ∙ sym (after_high m w (h + h) q (h + i) (k + 3 * h) x (omega arith) (omega arith)) ∙ ap u at_high)
            (ap y at_low) (ap y at_high) four.differences
      ];
}

-- all blocks and all columns
pub two_stages_done : (m w v h blocks n : ℕ) (x y : ℕ → ℕ) → blocks * (4 * h) ≡ n → ((k : ℕ) → k < n → x k < m)
    → FoursDone m w v h 0 blocks 0 h x y → IsTwoStages m w v h blocks x y
two_stages_done m w v h blocks n x y whole below done = search (arith, first_of_two, second_of_two)
