-- The steps of a power modulo m by binary digits, with residues in forms.
use Rattle.std.proofs.Common.{◌≡◌, ◌≢◌, ℕ, ◌*◌, ◌/◌, ◌%◌, ◌^◌, ◌<◌, sym, ap, ◌∙◌, refl, arith}
use Rattle.std.proofs.Math.Nat.{mod-lt, mod-mod, mod-eq_of_lt, one-mul, mul_comm}
use Rattle.std.proofs.lemmas.Nat.{pow-add, mul-mod_first, pow-mod, mul-lt}
use Rattle.modular_word.specs.Reduction.{IsReduction, IsNegatedInverse}
use Rattle.modular_word.proofs.Congruence.{same_product}
use Rattle.modular_word.proofs.ReductionSteps.{reduced_is}
use Rattle.modular_word.proofs.Powers as digit
use Rattle.modular_word.proofs.Powers.{pow-one}

-- what the loop keeps: the power and the product so far, in their forms, and what is left to do
pub record PowerSoFar (form made : ℕ → ℕ) (m target power product rest : ℕ) : Type 0 where
  pub x : ℕ
  pub y : ℕ
  pub x_below : x < m
  pub y_below : y < m
  pub power_is : power ≡ form x
  pub product_is : product ≡ made y
  pub left : (y * (x * x % m) ^ rest) % m ≡ target

pub start_odd : (form made : ℕ → ℕ) (m x n : ℕ) {power product rest : ℕ} → x < m → power ≡ form x → product ≡ made x
    → rest ≡ n / 2 → n % 2 ≡ 1 → PowerSoFar form made m (x ^ n % m) power product rest
start_odd form made m x n {power} {product} {rest} h ep er en odd =
    record {
      x = x;
      y = x;
      x_below = h;
      y_below = h;
      power_is = ep;
      product_is = er;
      left = digit.odd_step_keeps_power m 1 x n x (x * x % m) rest (x ^ n % m) (sym (ap (λ v. v % m) (one-mul _)
          ∙ mod-eq_of_lt h)) refl en odd
          (ap (λ v. v % m) (one-mul _));
    }

pub start_even : (form made : ℕ → ℕ) (m x n : ℕ) {power product rest : ℕ} → x < m → power ≡ form x
    → product ≡ made (1 % m) → rest ≡ n / 2 → n % 2 ≢ 1 → PowerSoFar form made m (x ^ n % m) power product rest
start_even form made m x n {power} {product} {rest} h ep er en even =
    record {
      x = x;
      y = 1 % m;
      x_below = h;
      y_below = mod-lt _ (let some : 0 < m = omega arith in some);
      power_is = ep;
      product_is = er;
      left = digit.even_step_keeps_power m (1 % m) x n (x * x % m) rest (x ^ n % m) refl en even
          (mul-mod_first _ _ _ ∙ ap (λ v. v % m) (one-mul _));
    }

-- a digit, by what is made of the forms
pub odd_step_keeps_power_forms : (form made : ℕ → ℕ) (m : ℕ) {target power product rest power' product' rest' : ℕ}
    → PowerSoFar form made m target power product rest → ((x : ℕ) → power ≡ form x → power' ≡ form (x * x % m))
    → ((x y : ℕ) → power' ≡ form x → product ≡ made y → product' ≡ made (x * y % m))
    → rest' ≡ rest / 2 → rest % 2 ≡ 1 → PowerSoFar form made m target power' product' rest'
odd_step_keeps_power_forms form made m {target} {power} {product} {rest} {power'} {product'} {rest'} w squared times en
    odd =
    let some : 0 < m = omega (arith, w.x_below) in
    let x = w.x * w.x % m in
    let p = squared w.x w.power_is in
    record {
      x = x;
      y = x * w.y % m;
      x_below = mod-lt (w.x * w.x) some;
      y_below = mod-lt (x * w.y) some;
      power_is = p;
      product_is = times x w.y p w.product_is;
      left = digit.odd_step_keeps_power m w.y x rest (x * w.y % m) (x * x % m) rest' target
          (ap (λ v. v % m) (mul_comm x w.y)) refl en odd
          w.left;
    }

pub even_step_keeps_power_forms : (form made : ℕ → ℕ) (m : ℕ) {target power product rest power' product' rest' : ℕ}
    → PowerSoFar form made m target power product rest → ((x : ℕ) → power ≡ form x → power' ≡ form (x * x % m))
    → product' ≡ product → rest' ≡ rest / 2 → rest % 2 ≢ 1 → PowerSoFar form made m target power' product' rest'
even_step_keeps_power_forms form made m {target} {power} {product} {rest} {power'} {product'} {rest'} w squared same en
    even =
    let x = w.x * w.x % m in
    record {
      x = x;
      y = w.y;
      x_below = mod-lt (w.x * w.x) (let some : 0 < m = omega (arith, w.x_below) in some);
      y_below = w.y_below;
      power_is = squared w.x w.power_is;
      product_is = same ∙ w.product_is;
      left = digit.even_step_keeps_power m w.y x rest (x * x % m) rest' target refl en even w.left;
    }

-- nothing is left to do
pub power_at_end : {form made : ℕ → ℕ} {m target power product rest : ℕ}
    (w : PowerSoFar form made m target power product rest) → rest ≡ 0 → w.y ≡ target
power_at_end {form} {made} {m} {target} {power} {product} {rest} w e =
    digit.step_end m w.y (w.x * w.x % m) rest target e w.y_below w.left

-- the short powers
pub power_one : (m b n r : ℕ) → n ≡ 1 → r ≡ b % m → r ≡ b ^ n % m
power_one m b n r e er = er ∙ ap (λ v. v % m) (sym (pow-one b) ∙ ap (λ v. b ^ v) (sym e))

second_power_is_square : (b : ℕ) → b ^ 2 ≡ b * b
second_power_is_square b = pow-add b 1 1 ∙ ap (λ v. v * b ^ 1) (pow-one b) ∙ ap (λ v. b * v) (pow-one b)

pub power_two : (m b n r : ℕ) → n ≡ 2 → r ≡ (b * b) % m → r ≡ b ^ n % m
power_two m b n r e er = er ∙ ap (λ v. v % m) (sym (second_power_is_square b) ∙ ap (λ v. b ^ v) (sym e))

pub power_three : (m b s r : ℕ) → s ≡ (b * b) % m → r ≡ (s * b) % m → r ≡ b ^ 3 % m
power_three m b s r es er =
    let f : b ^ 3 ≡ b * b * b = pow-add _ _ _ ∙ ap (λ v. v * b ^ 1) (second_power_is_square _)
    ∙ ap (λ v. b * b * v) (pow-one _) in
    er ∙ ap (λ v. (v * b) % m) es ∙ mul-mod_first _ _ _ ∙ ap (λ v. v % m) (sym f)

-- the power of a base reduced
pub power_of_residue_congruent : (m b x n r : ℕ) → x ≡ b % m → r ≡ x ^ n % m → r ≡ b ^ n % m
power_of_residue_congruent m b x n r ex er = er ∙ ap (λ v. v ^ n % m) ex ∙ pow-mod b n m

-- ---- by reductions: the power is a residue times the base b, the product a residue as it is
-- a product of numbers below m and the base is below what is reduced
pub product_below_scaled_modulus : (b m : ℕ) {t f g : ℕ} → t ≡ f * g → f < b → g < m → t < b * m
product_below_scaled_modulus b m {t} {f} {g} e h k = omega (arith, e, mul-lt f g b m h k)

-- the reduction of the square of a power is the power of the square
pub square_reduced : (b m i x power : ℕ) {t power' : ℕ} → 0 < b → IsNegatedInverse b m i → power ≡ (x * b) % m
    → t ≡ power * power → IsReduction b m t power' → power' ≡ (x * x % m * b) % m
square_reduced b m i x power {t} {power'} some inverse ep et is =
    reduced_is _ _ _ (x * x * b) some inverse
    (ap (λ v. v % m) et ∙ same_product _ _ _ _ _ (ap (λ v. v % m) ep ∙ mod-mod _ _) (ap (λ v. v % m) ep ∙ mod-mod _ _)
    ∙ ap (λ v. v % m) (let e : x * b * (x * b) ≡ x * x * b * b = omega arith in e)) is
    ∙ sym (mul-mod_first _ _ _)

-- the reduction of the power times the product is the product's next
pub reduction_is_next_product : (b m i x power product : ℕ) {t product' : ℕ} → 0 < b → IsNegatedInverse b m i
    → power ≡ (x * b) % m → t ≡ power * product → IsReduction b m t product' → product' ≡ x * product % m
reduction_is_next_product b m i x power product {t} {product'} some inverse ep et is =
    grind (arith, reduced_is, mul-mod_first)
