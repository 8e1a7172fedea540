-- The stages of a transform in place, one after another.
use Rattle.std.proofs.Common.{◌≡◌, ℕ, suc, ◌+◌, ◌*◌, ◌%◌, ◌/◌, ◌^◌, ◌<◌, sym, ◌∙◌, ap, arith, inl, inr, subst}
use Rattle.std.proofs.lemmas.Nat.{pow-add}
use Rattle.std.proofs.lemmas.Bool.{cases_eq}
use Rattle.std.proofs.Math.Nat.{two-pow-succ, pow-zero, mod-eq_of_lt}
use Rattle.modular_word.specs.Sums.{sum_below}
use Rattle.modular_transform.specs.Transforms.{transform}
use Rattle.modular_word.specs.Congruence.{Congruent}
use Rattle.modular_transform.specs.Stages.{IsStage}
use Rattle.modular_transform.specs.Orders.{bits_reversed}
use Rattle.modular_transform.proofs.BitReversal.{bits_reversed-zero, bits_reversed-suc}
use Rattle.modular_word.proofs.Congruence.{mod_of_eq, mod_trans}
use Rattle.modular_word.proofs.Powers.{pow-one}
use Rattle.modular_transform.proofs.MinusOne.{IsMinusOne}
use Rattle.modular_word.proofs.Sums.{sum_below-same, sum_below-suc, sum_below-zero}
use Rattle.modular_transform.proofs.Halves.{even_entries, odd_entries}

-- after t stages: entry r of the transform of block p, of s values y,
-- is the entry of the whole transform of x whose place has the bits of p, reversed, below r
pub record BlocksTransform (m g n t s : ℕ) (x y : ℕ → ℕ) : Type 0 where
  pub entry : (p r : ℕ) → p < 2 ^ t → r < s
      → Congruent m (sum_below s (λ i. y (p * s + i) * (g ^ (2 ^ t)) ^ (i * r)))
      (sum_below n (λ i. x i * g ^ (i * (bits_reversed t p + 2 ^ t * r))))

-- before the first stage the one block is the whole
pub stages_start : {m : ℕ} (g n : ℕ) (x : ℕ → ℕ) → BlocksTransform m g n 0 n x x
stages_start {m} g n x = grind (arith, bits_reversed-zero, mod_of_eq, sum_below-same, pow-one)

-- the root of the next stage
pub root_squared : (g t : ℕ) → g ^ (2 ^ t) * g ^ (2 ^ t) ≡ g ^ (2 ^ suc t)
root_squared g t = sym (pow-add g (2 ^ t) (2 ^ t)) ∙ ap (λ n. g ^ n) (sym (two-pow-succ t))

-- entry r of block p, from the entry k of the block q of which it is a half
next_block : {m : ℕ} (g n t h : ℕ) (x y z : ℕ → ℕ) (p q r b k : ℕ) → p ≡ 2 * q + b → b < 2 → k ≡ 2 * r + b → q < 2 ^ t
    → r < h → BlocksTransform m g n t (h + h) x y
    → Congruent m (sum_below (h + h) (λ i. y (q * (h + h) + i) * (g ^ (2 ^ t)) ^ (i * k)))
    (sum_below h (λ i. z (p * h + i) * (g ^ (2 ^ t) * g ^ (2 ^ t)) ^ (i * r)))
    → Congruent m (sum_below h (λ i. z (p * h + i) * (g ^ (2 ^ suc t)) ^ (i * r)))
    (sum_below n (λ i. x i * g ^ (i * (bits_reversed (suc t) p + 2 ^ suc t * r))))
next_block {m} g n t h x y z p q r b k is bit is_k within l blocks halves =
    let half : bits_reversed t (p / 2) ≡ bits_reversed t q = ap (bits_reversed t) ((omega arith)) in
    let low : p % 2 * 2 ^ t ≡ b * 2 ^ t = ap (λ v. v * 2 ^ t) ((omega arith)) in
    let place : bits_reversed t q + 2 ^ t * k ≡ bits_reversed (suc t) p + 2 ^ suc t * r =
    ap (λ v. bits_reversed t q + 2 ^ t * v) is_k
    ∙ omega (arith, ap (λ v. v * r) (two-pow-succ t), bits_reversed-suc t p, half, low) in
    grind (arith, root_squared g t, blocks.entry q k within (omega arith))

-- one stage further
pub stages_more : {m : ℕ} (g n t h : ℕ) (x y z : ℕ → ℕ) → IsMinusOne m ((g ^ (2 ^ t)) ^ h)
    → BlocksTransform m g n t (h + h) x y → IsStage m (g ^ (2 ^ t)) h (2 ^ t) y z
    → BlocksTransform m g n (suc t) h x z
stages_more {m} g n t h x y z half_turn blocks stage = record {
  entry = λ p r below l.
      let within : (p / 2) < 2 ^ t = omega (arith, two-pow-succ t) in
      let u = λ (i : ℕ). y ((p / 2) * (h + h) + i) in
      let v = λ (i : ℕ). z (p * h + i) in
      elim (cases_eq (p % 2) 0) [
        | inl e ↦
            let is : p ≡ 2 * (p / 2) + 0 = omega arith in
            next_block g n t h x y z p (p / 2) r 0 (2 * r) is (omega arith) (omega arith) within l blocks
            (even_entries (g ^ (2 ^ t)) h r u v half_turn (λ i j. subst (λ k. Congruent m (z k) (u i + u (h + i)))
            (omega (arith, ap (λ v. v * h) is)) (stage.pairs (p / 2) i within j).summed))
        | inr o ↦
            let is : p ≡ 2 * (p / 2) + 1 = omega arith in
            next_block g n t h x y z p (p / 2) r 1 (2 * r + 1) is (omega arith) (omega arith) within l blocks
            (odd_entries (g ^ (2 ^ t)) h r u v half_turn
            (λ i j. subst (λ k. Congruent m (z k + u (h + i) * (g ^ (2 ^ t)) ^ i) (u i * (g ^ (2 ^ t)) ^ i))
            (omega (arith, ap (λ v. v * h) is)) (stage.pairs (p / 2) i within j).subtracted))
      ];
}

-- blocks of one value: the transform, in the order of reversed bits
pub stages_end : {m : ℕ} (g n t : ℕ) (x y : ℕ → ℕ) (p : ℕ) → BlocksTransform m g n t 1 x y → p < 2 ^ t → y p < m
    → y p ≡ transform m g n x (bits_reversed t p)
stages_end {m} g n t x y p blocks below small =
    let place : bits_reversed t p + 2 ^ t * 0 ≡ bits_reversed t p = omega arith in
    let at : p * 1 + 0 ≡ p = omega arith in
    let one = sum_below-suc 0 _ ∙ ap (λ v. v + y (p * 1 + 0) * (g ^ (2 ^ t)) ^ (0 * 0)) (sum_below-zero _)
    ∙ ap (λ v. 0 + y (p * 1 + 0) * v) (pow-zero (g ^ (2 ^ t))) ∙ ap (λ v. 0 + y v * 1) at in
    let single : 0 + y p * 1 ≡ y p = omega arith in
    let e = mod_trans (mod_of_eq (sym (one ∙ single))) (blocks.entry p 0 below (omega arith)) in
    sym (mod-eq_of_lt small) ∙ e.same ∙ ap (λ v. sum_below n (λ i. x i * g ^ (i * v)) % m) place
