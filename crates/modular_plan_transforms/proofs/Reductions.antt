-- Products over the number b of words, by Montgomery's reduction, and how they are joined.
use Rattle.std.proofs.Common.{◌≡◌, ℕ, ◌+◌, ◌-◌, ◌*◌, ◌%◌, ◌^◌, ◌<◌, ◌≤◌, sym, ap, ◌∙◌, arith}
use Rattle.std.proofs.Math.Nat.{mod-eq_of_lt, mul_assoc, add-mul-mod_self_left, add-mul-mod_self_right}
use Rattle.modular_word.specs.Congruence.{Congruent}
use Rattle.modular_word.specs.Inverses.{IsInverse}
use Rattle.modular_word.specs.Reduction.{IsNegatedInverse}
use Rattle.modular_word.specs.Sums.{sum_below}
use Rattle.modular_word.proofs.Congruence.{mod_of_eq, mod_refl, mod_sym, mod_trans, mod_add, mod_mul, mod_add_cancel}
use Rattle.modular_word.proofs.Congruence.{residue_of, equal_below}
use Rattle.modular_word.proofs.Sums.{sum_below-same, sum_below-mul}
use Rattle.modular_plan_passes.specs.Plans.{constant, AreRemainders}
use Rattle.modular_plan_passes.proofs.Bounds.{multiple_is_none}

-- the inverse of m, from the negated one
pub opposite_of_negated_is_inverse : (b m i r : ℕ) → 0 < b → IsNegatedInverse b m i → (r + i) % b ≡ 0 → r < b
    → IsInverse b m r
opposite_of_negated_is_inverse b m i r some negated none fits =
    let last : b - 1 < b = omega arith in
    let product : Congruent b (m * i) (b - 1) = record { same = negated.product ∙ sym (mod-eq_of_lt last) } in
    let gone : Congruent b (r + i) 0 = record { same = none ∙ sym (mod-eq_of_lt some) } in
    let all : Congruent b (m * r + (b - 1)) (1 + (b - 1)) =
    mod_trans (mod_add (mod_refl (m * r)) (mod_sym product)) (mod_trans (mod_of_eq (omega arith))
    (mod_trans (mod_mul (mod_refl m) gone) (mod_trans (mod_of_eq (omega arith))
    (mod_sym (multiple_is_none 1 (1 + (b - 1)) (omega arith)))))) in
    record { below = fits; one = (mod_add_cancel (b - 1) all).same }

-- a product t and the multiple of m with its low word, and the words of both
pub record IsReducing (b m t q low high multiple : ℕ) : Type 0 where
  pub parts : t ≡ low + b * high
  pub multiple_parts : q * m ≡ low + b * multiple
  pub below : t < m * b
  pub fits : q < b

-- the multiple by the inverse of m
pub is_reducing : {b m i : ℕ} (t q low high p0 multiple : ℕ) → IsInverse b m i → t ≡ low + b * high → t < m * b
    → low < b
    → q ≡ (low * i) % b → q < b → q * m ≡ p0 + b * multiple → p0 < b
    → IsReducing b m t q low high multiple
is_reducing {b} {m} {i} t q low high p0 multiple inverse parts below low_fits is fits multiple_parts p0_fits =
    let same : Congruent b p0 low =
    mod_trans (mod_sym (record { same = add-mul-mod_self_left p0 b multiple }))
    (mod_trans (mod_of_eq (sym multiple_parts))
    (mod_trans (mod_mul (mod_trans (mod_of_eq is) (residue_of (low * i))) (mod_refl m))
    (mod_trans (mod_of_eq (omega arith))
    (mod_trans (mod_mul (mod_refl low) (record { same = inverse.one })) (mod_of_eq (omega arith)))))) in
    let e = equal_below p0_fits low_fits same in
    record { parts = parts; multiple_parts = omega (arith, multiple_parts, e); below = below; fits = fits }

-- the high words
pub record AreHigh (m high multiple : ℕ) : Type 0 where
  pub below : high < m
  pub multiple_at_most : multiple ≤ m

pub high_words : {b m t q low high multiple : ℕ} → IsReducing b m t q low high multiple → AreHigh m high multiple
high_words {b} {m} {t} {q} {low} {high} {multiple} h = grind arith

-- the difference of the high words, made positive
pub reduced_congruent : {b m t q low high multiple : ℕ} (rest r : ℕ) → IsReducing b m t q low high multiple
    → rest + multiple ≡ m
    → r ≡ high + rest → Congruent m (r * b) t
reduced_congruent {b} {m} {t} {q} {low} {high} {multiple} rest r h is_rest is =
    let whole : r * b + q * m ≡ t + b * m =
    omega (arith, ap (λ v. v * b) is, ap (λ v. v * b) is_rest, h.parts, h.multiple_parts) in
    record { same = sym (add-mul-mod_self_right (r * b) q m) ∙ ap (λ v. v % m) whole ∙ add-mul-mod_self_right t b m }

-- the remainders of a polynomial, times t, are those of t times the polynomial
pub remainders_times : {m : ℕ} (g z b count last t : ℕ) (x y u : ℕ → ℕ) → AreRemainders m g z b count last x y
    → ((j i : ℕ) → j < count → i < last → Congruent m (u (j * last + i)) (t * y (j * last + i)))
    → AreRemainders m g z b count last (λ k. t * x k) (λ k. u k % m)
remainders_times {m} g z b count last t x y u are is = record {
  each = λ j i lj li.
      let c = constant g z (b * count + j) in
      let sum = sum_below count (λ k. x (k * last + i) * c ^ k) in
      let spread : t * sum ≡ sum_below count (λ k. t * x (k * last + i) * c ^ k) =
      sym (sum_below-mul count t _) ∙ sum_below-same count _ _ (λ k l. sym (mul_assoc t _ _)) in
      (mod_trans (is j i lj li)
      (mod_trans (mod_mul (mod_refl t) (mod_trans (mod_of_eq (are.each j i lj li)) (residue_of sum)))
      (mod_of_eq spread))).same;
}

-- a product over b is t times the product, t being the inverse of b
pub over_base : {m : ℕ} (b t r product : ℕ) → Congruent m (b * t) 1 → Congruent m (r * b) product
    → Congruent m r (t * product)
over_base {m} b t r product unit is =
    mod_trans (mod_of_eq (omega arith)) (mod_trans (mod_mul (mod_refl r) (mod_sym unit))
    (mod_trans (mod_of_eq (omega arith)) (mod_mul (mod_refl t) is)))

-- the factor times b makes up for it
pub made_up_for : {m : ℕ} (b t count value w scaled : ℕ) → Congruent m (b * t) 1 → Congruent m scaled (w * b)
    → (count * (t * value) * scaled) % m ≡ (count * value * w) % m
made_up_for {m} b t count value w scaled unit is =
    (mod_trans (mod_mul (mod_refl _) is) (mod_trans (mod_of_eq (omega arith))
    (mod_trans (mod_mul (mod_refl (count * value * w)) unit) (mod_of_eq (omega arith))))).same
