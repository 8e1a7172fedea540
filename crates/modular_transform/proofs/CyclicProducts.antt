-- The transform of a product of transforms: the cyclic product, n times over and mirrored.
use Rattle.std.proofs.Common.{◌≡◌, ℕ, suc, ◌+◌, ◌-◌, ◌*◌, ◌^◌, ◌<◌, ◌≢◌, sym}
use Rattle.std.proofs.Common.{◌∙◌, ap, arith, inl, inr, ◌⊎◌, eqb, cond, ◌||◌}
use Rattle.std.proofs.lemmas.Nat.{pow-add}
use Rattle.std.proofs.lemmas.Bool.{cases_lt}
use Rattle.std.proofs.lemmas.Bool.Decides.{eqb_tells}
use Rattle.std.proofs.Math.Nat.{two-pow-succ, pow-zero}
use Rattle.modular_word.specs.Sums.{sum_below}
use Rattle.modular_word.specs.Congruence.{Congruent}
use Rattle.modular_word.proofs.Congruence.{mod_of_eq, mod_refl, mod_trans, mod_mul, mod_pow}
use Rattle.modular_word.proofs.Powers.{pow-mul, one-pow}
use Rattle.modular_transform.proofs.MinusOne.{IsMinusOne, even_power_of_minus_one}
use Rattle.modular_word.proofs.Sums.{sum_below-same, sum_below-congruent, sum_below-mul}
use Rattle.modular_word.proofs.Sums.{sum_below-of_constant, sum_below-exchanged, sum_below-times_sum}
use Rattle.modular_transform.proofs.Geometry.{geometric, geometric_sum_vanishes}

-- beyond one value, n is even, and g to its half is -1
pub record HalfTurn (m g n : ℕ) : Type 0 where
  pub known : 1 < n → (y : ℕ) × (n ≡ 2 ^ suc y) × IsMinusOne m (g ^ (2 ^ y))

-- g to the n is 1
pub full_turn : {m : ℕ} (g n : ℕ) → HalfTurn m g n → 1 < n → Congruent m (g ^ n) 1
full_turn g n turn l =
    let k = turn.known l in
    mod_trans (mod_of_eq (ap (λ v. g ^ v) (k.1 ∙ two-pow-succ k.0 ∙ omega arith) ∙ pow-mul g (2 ^ k.0) (2 * 1)))
    (even_power_of_minus_one 1 k.2)

-- powers of 1
pub geometric_of_one : {m : ℕ} (n h : ℕ) → Congruent m h 1 → Congruent m (geometric n h) n
geometric_of_one n h is =
    mod_trans (sum_below-congruent n (λ j. h ^ j) (λ j. 1) (λ j l. mod_trans (mod_pow j is) (mod_of_eq (one-pow j))))
    (mod_of_eq (sum_below-of_constant n 1 ∙ omega arith))

-- g to some full turns
power_of_full_turns : {m : ℕ} (g n q : ℕ) → HalfTurn m g n → 1 < n → Congruent m (g ^ (n * q)) 1
power_of_full_turns g n q turn l =
    mod_trans (mod_of_eq (pow-mul g n q)) (mod_trans (mod_pow q (full_turn g n turn l)) (mod_of_eq (one-pow q)))

-- full turns add up to n ..
at_full_turns : {m : ℕ} (g n q d : ℕ) → HalfTurn m g n → 1 < n → d ≡ n * q → Congruent m (geometric n (g ^ d)) n
at_full_turns g n q d turn l e =
    geometric_of_one n (g ^ d) (mod_trans (mod_of_eq (ap (λ v. g ^ v) e)) (power_of_full_turns g n q turn l))

at_no_turn : {m : ℕ} (g n : ℕ) → Congruent m (geometric n (g ^ 0)) n
at_no_turn g n = geometric_of_one n (g ^ 0) (mod_of_eq (pow-zero g))

-- .. and others to 0
pub at_other_turns : {m : ℕ} (g n q r d : ℕ) → HalfTurn m g n → 1 < n → 0 < r → r < n → d ≡ n * q + r
    → Congruent m (geometric n (g ^ d)) 0
at_other_turns {m} g n q r d turn l some below e =
    let k = turn.known l in
    let same : Congruent m (g ^ d) (g ^ r) =
    grind (arith, pow-add g (n * q) r, mod_mul (power_of_full_turns g n q turn l) (mod_refl (g ^ r))) in
    let within : r < 2 ^ suc k.0 = omega arith in
    mod_trans (sum_below-congruent n (λ j. (g ^ d) ^ j) (λ j. (g ^ r) ^ j) (λ j h. mod_pow j same))
    (mod_trans (mod_of_eq (ap (λ v. geometric v (g ^ r)) k.1)) (geometric_sum_vanishes k.0 g r k.2 some within))

-- the place k of the mirror image of place e: e + k is 0 or n
pub record Mirrored (n e k : ℕ) : Type 0 where
  pub place : e < n
  pub image : k < n
  pub sum : (e + k ≡ 0) ⊎ (e + k ≡ n)

-- where a + b is e or e + n, a + b + k is 0, or n or twice n beyond one value
sum_is_full_turns : (n e k a b : ℕ) → Mirrored n e k → a < n → b < n → (a + b ≡ e) ⊎ (a + b ≡ e + n)
    → (a + b + k ≡ 0) ⊎ ((1 < n) × ((a + b + k ≡ n * 1) ⊎ (a + b + k ≡ n * 2)))
sum_is_full_turns n e k a b mirror la lb at = search arith

-- there the powers of g ^ (a + b + k) add up to n ..
geometric_of_full_turns : {m : ℕ} (g n e k a b : ℕ) → HalfTurn m g n → Mirrored n e k → a < n → b < n
    → (a + b ≡ e) ⊎ (a + b ≡ e + n)
    → Congruent m (geometric n (g ^ (a + b + k))) n
geometric_of_full_turns {m} g n e k a b turn mirror la lb at = elim (sum_is_full_turns n e k a b mirror la lb at) [
  | inl none ↦ mod_trans (mod_of_eq (ap (λ v. geometric n (g ^ v)) none)) (at_no_turn g n)
  | inr some ↦ elim some.1 [
    | inl once ↦ at_full_turns g n 1 (a + b + k) turn some.0 once
    | inr twice ↦ at_full_turns g n 2 (a + b + k) turn some.0 twice
  ]
]

geometric_vanishes_between : {m : ℕ} (g n d : ℕ) → HalfTurn m g n → 1 < n → d < n + n + n → d ≢ 0 → d ≢ n → d ≢ n + n
    → Congruent m (geometric n (g ^ d)) 0
geometric_vanishes_between g n d turn l below no_0 no_1 no_2 =
    elim (cases_lt d n) [
      | inl h ↦ at_other_turns g n 0 d d turn l (omega arith) h (omega arith)
      | inr h ↦ elim (cases_lt d (n + n)) [
        | inl i ↦ at_other_turns g n 1 (d - n) d turn l (omega arith) (omega arith) (omega arith)
        | inr i ↦ at_other_turns g n 2 (d - (n + n)) d turn l (omega arith) (omega arith) (omega arith)
      ]
    ]

-- one product of two values, with the test of the cyclic product
geometric_by_test : {m : ℕ} (g n e k a b c : ℕ) → HalfTurn m g n → Mirrored n e k → a < n → b < n
    → Congruent m (c * geometric n (g ^ (a + b + k))) (n * (cond (eqb (a + b) e || eqb (a + b) (e + n)) c 0))
geometric_by_test {m} g n e k a b c turn mirror la lb =
    let yes : c * n ≡ n * c = omega arith in
    let no : c * 0 ≡ n * 0 = omega arith in
    elim (eqb_tells (a + b) e) [
      | inl p ↦
          rw p.0 (mod_trans (mod_mul (mod_refl c) (geometric_of_full_turns g n e k a b turn mirror la lb (inl p.1)))
          (mod_of_eq yes))
      | inr p ↦ elim (eqb_tells (a + b) (e + n)) [
        | inl q ↦ rw (p.0, q.0) (mod_trans
            (mod_mul (mod_refl c) (geometric_of_full_turns g n e k a b turn mirror la lb (inr q.1))) (mod_of_eq yes))
        | inr q ↦ rw (p.0, q.0) (mod_trans (mod_mul (mod_refl c) (grind (arith, geometric_vanishes_between)))
            (mod_of_eq no))
      ]
    ]

-- one summand of the transform of the product
summand_by_power : (g k a b j x y : ℕ) → (x * g ^ (a * j)) * (y * g ^ (b * j)) * g ^ (j * k) ≡ x * y * (g ^ (a + b + k))
    ^ j
summand_by_power g k a b j x y =
    let e : (a + b + k) * j ≡ a * j + b * j + j * k = omega arith in
    let p = sym (pow-mul _ _ _) ∙ ap (λ n. g ^ n) e ∙ pow-add g (a * j + b * j) (j * k)
    ∙ ap (λ v. v * g ^ (j * k)) (pow-add g (a * j) (b * j)) in
    omega (arith, ap (λ v. x * y * v) p)

-- a factor of every summand of a double sum
pub factor_out_of_double_sum : (n k c : ℕ) (f : ℕ → ℕ → ℕ)
    → sum_below n (λ a. sum_below k (λ b. c * f a b)) ≡ c * sum_below n (λ a. sum_below k (λ b. f a b))
factor_out_of_double_sum n k c f =
    sum_below-same n (λ a. sum_below k (λ b. c * f a b)) (λ a. c * sum_below k (λ b. f a b))
    (λ a l. sum_below-mul k c (f a)) ∙ sum_below-mul n c (λ a. sum_below k (λ b. f a b))

-- entry j of a product of transforms, in the sum of the product's transform
product_of_transforms_expanded : (g n k j : ℕ) (x y : ℕ → ℕ)
    → sum_below n (λ a. x a * g ^ (a * j)) * sum_below n (λ b. y b * g ^ (b * j)) * g ^ (j * k)
    ≡ sum_below n (λ a. sum_below n (λ b. x a * y b * (g ^ (a + b + k)) ^ j))
product_of_transforms_expanded g n k j x y =
    let s = g ^ (j * k) in
    let f = λ (a b : ℕ). (x a * g ^ (a * j)) * (y b * g ^ (b * j)) in
    let t = sum_below-times_sum _ _ _ _ in
    let p = ap (λ v. v * s) t in
    let q : sum_below n (λ a. sum_below n (λ b. f a b)) * s ≡ s * sum_below n (λ a. sum_below n (λ b. f a b)) =
    omega arith in
    p ∙ q ∙ sym (factor_out_of_double_sum _ _ _ _) ∙ sum_below-same _ _ _
    (λ a la. sum_below-same _ _ _ (λ b lb.
    let u : s * f a b ≡ f a b * s = omega arith in u
    ∙ summand_by_power g k a b j (x a) (y b)))

-- the outermost of three sums becomes the innermost
pub outermost_sum_becomes_innermost : (p n : ℕ) (f : ℕ → ℕ → ℕ → ℕ)
    → sum_below p (λ e. sum_below n (λ i. sum_below n (λ j. f i j e)))
    ≡ sum_below n (λ i. sum_below n (λ j. sum_below p (λ e. f i j e)))
outermost_sum_becomes_innermost p n f =
    sum_below-exchanged p n (λ e i. sum_below n (λ j. f i j e))
    ∙ sum_below-same n (λ i. sum_below p (λ e. sum_below n (λ j. f i j e)))
    (λ i. sum_below n (λ j. sum_below p (λ e. f i j e))) (λ i l. sum_below-exchanged p n (λ e j. f i j e))

-- the convolution theorem: at the mirror image of e, the transform of
-- the product of two transforms is n times entry e of the cyclic product
pub transform_of_products : {m : ℕ} (g n e k : ℕ) (x y c : ℕ → ℕ) → HalfTurn m g n → Mirrored n e k
    → ((j : ℕ) → j < n
    → Congruent m (c j) (sum_below n (λ a. x a * g ^ (a * j)) * sum_below n (λ b. y b * g ^ (b * j))))
    → Congruent m (sum_below n (λ j. c j * g ^ (j * k)))
    (n * sum_below n (λ a. sum_below n (λ b. cond (eqb (a + b) e || eqb (a + b) (e + n)) (x a * y b) 0)))
transform_of_products {m} g n e k x y c turn mirror is =
    let f = λ (a b j : ℕ). x a * y b * (g ^ (a + b + k)) ^ j in
    mod_trans (sum_below-congruent _ _ _ (λ j l. mod_trans (mod_mul (is j l) (mod_refl _))
    (mod_of_eq (product_of_transforms_expanded _ _ _ _ _ _))))
    (mod_trans (mod_of_eq (outermost_sum_becomes_innermost n n f))
    (mod_trans (sum_below-congruent _ _ _
    (λ a la. sum_below-congruent _ _ _ (λ b lb. mod_trans (mod_of_eq (sum_below-mul _ _ _))
    (geometric_by_test _ _ _ _ _ _ _ turn mirror la lb)))) (mod_of_eq (factor_out_of_double_sum _ _ _ _))))
