-- Products of polynomials of one and of two coefficients, in place.
use Rattle.std.proofs.Common.{◌≡◌, ℕ, ◌+◌, ◌-◌, ◌*◌, ◌%◌, ◌<◌, ◌≤◌, inl, inr, sym, ◌∙◌, ap, arith}
use Rattle.std.proofs.lemmas.Bool.{cases_eq}
use Rattle.modular_word.specs.Congruence.{Congruent}
use Rattle.modular_word.specs.Sums.{sum_below}
use Rattle.modular_word.proofs.Congruence.{mod_of_eq, mod_refl, mod_sym, mod_trans, mod_add, mod_mul, mod_add_cancel}
use Rattle.modular_word.proofs.Congruence.{residue_of}
use Rattle.modular_plan_passes.specs.Plans.{constant}
use Rattle.modular_plan_passes.specs.Steps.{PairDone}
use Rattle.modular_plan_passes.proofs.Bounds.{multiple_is_none}
use Rattle.modular_plan_transforms.specs.Products.{product_modulo, AreProducts}

-- one coefficient
pub product_of_one : (m c : ℕ) (x y : ℕ → ℕ) → product_modulo m 1 c x y 0 ≡ (x 0 * y 0) % m
unfolding sum_below
product_of_one m c x y = grind arith

-- two coefficients
pub product_of_two_low : (m c : ℕ) (x y : ℕ → ℕ) → product_modulo m 2 c x y 0 ≡ (x 0 * y 0 + c * (x 1 * y 1)) % m
unfolding sum_below
product_of_two_low m c x y = grind arith

pub product_of_two_high : (m c : ℕ) (x y : ℕ → ℕ) → product_modulo m 2 c x y 1 ≡ (x 0 * y 1 + x 1 * y 0) % m
unfolding sum_below
product_of_two_high m c x y = grind arith

-- what becomes of a pair u, v, by the pair y, z of the other list and the product of v and the constant
abbrev pub IsPairProduct : ℕ → ℕ → ℕ → ℕ → ℕ → ℕ → ℕ → ℕ → Type 0
IsPairProduct m turned y z u v s t = (s ≡ (u * y + turned * z) % m) × (t ≡ (u * z + v * y) % m)

-- .. where all four numbers were read from the lists
pub pair_of_read : (m turned : ℕ) {x y u v x' y' u' v' s t : ℕ} → x ≡ x' → y ≡ y' → u ≡ u' → v ≡ v'
    → s ≡ (x * y + turned * v) % m → t ≡ (x * v + u * y) % m → IsPairProduct m turned y' v' x' u' s t
pair_of_read m turned {x} {y} {u} {v} {x'} {y'} {u'} {v'} {s} {t} is_x is_y is_u is_v first second = grind arith

-- minus the product by an entry is the product by the constant of the next block
pub product_by_odd : {m : ℕ} (x w c product rest : ℕ) → w < m → ((v : ℕ) → v + w ≡ m → Congruent m v c)
    → product ≡ (x * w) % m → rest + product ≡ m → Congruent m rest (x * c)
product_by_odd {m} x w c product rest below odd is whole =
    let v : ℕ = m - w in
    let e : v + w ≡ m = omega arith in
    let none : Congruent m (x * v + product) 0 =
    mod_trans (mod_add (mod_refl (x * v)) (mod_trans (mod_of_eq is) (residue_of (x * w))))
    (multiple_is_none x (x * v + x * w) (omega (arith, ap (λ k. x * k) e))) in
    mod_trans (mod_add_cancel product (mod_trans (multiple_is_none 1 (rest + product) (omega (arith, whole)))
    (mod_sym none)))
    (mod_mul (mod_refl x) (odd v e))

-- the block that was multiplied
block_multiplied : {m : ℕ} (j turned c : ℕ) (x y before after : ℕ → ℕ) → Congruent m turned (before (2 * j + 1) * c)
    → ((k : ℕ) → j * 2 ≤ k → before k ≡ x k)
    → PairDone (λ u v s t. IsPairProduct m turned (y (2 * j)) (y (2 * j + 1)) u v s t) (2 * j) (2 * j + 1) before after
    → (i : ℕ) → i < 2 → after (j * 2 + i) ≡ product_modulo m 2 c (λ k. x (j * 2 + k)) (λ k. y (j * 2 + k)) i
block_multiplied {m} j turned c x y before after is kept step i below =
    let first : 2 * j ≡ j * 2 + 0 = omega arith in
    let second : 2 * j + 1 ≡ j * 2 + 1 = omega arith in
    let u : before (2 * j) ≡ x (j * 2 + 0) = kept (2 * j) (omega arith) ∙ ap x first in
    let v : before (2 * j + 1) ≡ x (j * 2 + 1) = kept (2 * j + 1) (omega arith) ∙ ap x second in
    let w : Congruent m (before (2 * j) * y (2 * j) + turned * y (2 * j + 1))
    (x (j * 2 + 0) * y (j * 2 + 0) + c * (x (j * 2 + 1) * y (j * 2 + 1))) =
    mod_add (mod_mul (mod_of_eq u) (mod_of_eq (ap y first)))
    (mod_trans (mod_mul (mod_trans is (mod_mul (mod_of_eq v) (mod_refl c))) (mod_of_eq (ap y second)))
    (mod_of_eq (omega arith))) in
    elim (cases_eq i 0) [
      | inl e ↦ grind (arith, product_of_two_low m c (λ k. x (j * 2 + k)) (λ k. y (j * 2 + k)), w.same, step.pair.0)
      | inr ne ↦
          rw (let e : i ≡ 1 = omega arith in e) (ap after (sym second) ∙ step.pair.1
          ∙ (mod_add (mod_mul (mod_of_eq u) (mod_of_eq (ap y second)))
          (mod_mul (mod_of_eq v) (mod_of_eq (ap y first)))).same
          ∙ sym (product_of_two_high m c (λ k. x (j * 2 + k)) (λ k. y (j * 2 + k))))
    ]

-- one more block
pub next_block_is_product : {m : ℕ} (j turned : ℕ) (c x y before after : ℕ → ℕ)
    → Congruent m turned (before (2 * j + 1) * c j)
    → ((k : ℕ) → j * 2 ≤ k → before k ≡ x k)
    → PairDone (λ u v s t. IsPairProduct m turned (y (2 * j)) (y (2 * j + 1)) u v s t) (2 * j) (2 * j + 1) before after
    → ((k i : ℕ) → k < j → i < 2
    → before (k * 2 + i) ≡ product_modulo m 2 (c k) (λ e. x (k * 2 + e)) (λ e. y (k * 2 + e)) i)
    → (k i : ℕ) → k < j + 1 → i < 2
    → after (k * 2 + i) ≡ product_modulo m 2 (c k) (λ e. x (k * 2 + e)) (λ e. y (k * 2 + e)) i
next_block_is_product {m} j turned c x y before after is kept step done k i lk li = elim (cases_eq k j) [
  | inl e ↦ rw e (block_multiplied j turned (c j) x y before after is kept step i li)
  | inr ne ↦ step.kept (k * 2 + i) (omega arith) (omega arith) ∙ done k i (omega arith) li
]

-- products of single entries
pub are_products_of_one : {m : ℕ} (g z b count last : ℕ) (x y p : ℕ → ℕ) → last ≡ 1
    → ((i : ℕ) → i < count → p i ≡ (x i * y i) % m) → AreProducts m g z b count last x y p
are_products_of_one {m} g z b count last x y p one is =
    rw one (record {
      each = λ j i lj li.
          let place : j * 1 + 0 ≡ j = omega arith in
          rw (let none : i ≡ 0 = omega arith in none) (ap p place ∙ is j lj ∙ ap (λ n. (x n * y n) % m) (sym place)
          ∙ sym (product_of_one m (constant g z (b * count + j)) (λ k. x (j * 1 + k)) (λ k. y (j * 1 + k))));
    })
