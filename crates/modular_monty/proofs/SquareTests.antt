-- Two reductions make 1 modulo m of the square of the base alone.
use Rattle.std.proofs.Common.{◌≡◌, ℕ, ◌+◌, ◌*◌, ◌/◌, ◌%◌, ◌<◌, sym, ap, ◌∙◌, arith, refl, ⊎_elim}
use Rattle.std.proofs.Math.Nat.{mod-lt, mod-eq_of_lt}
use Rattle.std.proofs.lemmas.Bool.{cases_lt}
use Rattle.modular_word.specs.Reduction.{IsReduction, IsNegatedInverse}
use Rattle.modular_word.proofs.Congruence.{same_product, same_without_unit}
use Rattle.modular_word.proofs.ReductionSteps.{base_inverse}

-- a base has numbers below it
pub base_above_is_positive : {b n : ℕ} → n < b → 0 < b
base_above_is_positive h = omega (arith, h)

-- a word as a double word
pub double_word_is_low_word : (b : ℕ) {t f z : ℕ} → t ≡ f + b * z → z ≡ 0 → t ≡ f
double_word_is_low_word b {z = z} e ez = let none : b * z ≡ b * 0 = ap (λ n. b * n) ez in omega (arith, e, none)

-- a residue modulo an odd number is below it
pub residue_below_odd_modulus : (x m : ℕ) {r : ℕ} → m % 2 ≡ 1 → r ≡ x % m → r < m
residue_below_odd_modulus x m odd e = let some : 0 < m = omega (arith, odd) in omega (arith, e, mod-lt x some)

module _ {b m i square t r s u : ℕ} (some : 0 < b) (inverse : IsNegatedInverse b m i) (below : square < m)
    (first : t ≡ square) (once : IsReduction b m t r) (second : s ≡ r) (twice : IsReduction b m s u) where
  -- the number that the first reduction makes, times the base
  times_base : (r * b) % m ≡ square
  times_base = once.congruent ∙ ap (λ n. n % m) first ∙ mod-eq_of_lt below

  -- and the second
  again : (u * b) % m ≡ r % m
  again = twice.congruent ∙ ap (λ n. n % m) second

  cancels : (x y : ℕ) → (x * b) % m ≡ (y * b) % m → x % m ≡ y % m
  cancels x y e = same_without_unit m x y b ((m * i + 1) / b) (base_inverse b m i some inverse) e

  -- of the square of the base they make 1
  unit_of_square : square ≡ (b * b) % m → u ≡ 1 % m
  unit_of_square e =
      let base : r % m ≡ b % m = cancels r b (times_base ∙ e) in
      sym (mod-eq_of_lt twice.below) ∙ cancels u 1 (again ∙ base ∙ ap (λ n. n % m) (omega arith))

  -- and what they make 1 of is that square
  pub square_of_unit : u % m ≡ 1 % m → square ≡ (b * b) % m
  square_of_unit e =
      let one : 1 * b ≡ b = omega arith in
      let base = sym again ∙ same_product m u 1 b b e refl ∙ ap (λ n. n % m) one in
      sym times_base ∙ same_product m r b b b base refl

  -- modulo 1 there is only one residue
  pub square_modulo_one : m ≡ 1 → square ≡ (b * b) % m
  square_modulo_one e = omega arith

  -- so where they don't make 1 of it the modulus is 1
  pub modulus_is_one : (u ≡ 1 → ⊥) → square ≡ (b * b) % m → m ≡ 1
  modulus_is_one other e =
      let is = unit_of_square e in
      ⊎_elim (λ above. absurd (other (is ∙ mod-eq_of_lt above))) (λ most. omega (arith, below, most)) (cases_lt 1 m)
