-- What each operation modulo an odd m makes of forms.
use Rattle.std.proofs.Common.{◌≡◌, ℕ, ◌+◌, ◌*◌, ◌/◌, ◌%◌, ◌<◌, ◌↔◌}
use Rattle.std.proofs.Common.{sym, ap, ◌∙◌, arith, refl, pos, ◌-ℤ◌, neg_ℤ, subst}
use Rattle.std.proofs.Math.Nat.{mul-le-mul_left, mod-lt, mod-mod, mod-eq_of_lt}
use Rattle.std.proofs.lemmas.Nat.{mul-mod_first}
use Rattle.std.proofs.lemmas.Int.{ints}
use Rattle.modular_word.specs.Congruence.{Congruent}
use Rattle.modular_word.specs.Reduction.{IsReduction}
use Rattle.modular_word.specs.Residues.{residue}
use Rattle.modular_word.specs.Sums.{sum_below}
use Rattle.modular_word.proofs.Congruence.{same_sum, same_product, same_without}
use Rattle.modular_word.proofs.Congruence.{mod_of_eq, mod_refl, mod_trans, mod_add, mod_mul}
use Rattle.modular_word.proofs.ReductionSteps.{base_inverse}
use Rattle.modular_word.proofs.ResidueLemmas.{residue_is, difference_and}
use Rattle.modular_word.proofs.Sums.{sum_below-congruent, sum_below-mul}
use Rattle.modular_reduced.specs.Forms.{Represents, IsForm}
use Rattle.modular_reduced.proofs.FormLemmas.{Answered, answered_by_form, form_of_value}
use Rattle.modular_monty.specs.Montgomery.{montgomery_form, montgomery_value, IsOddRing}
use Rattle.modular_monty.specs.MontgomeryLaws.{positive, base_cancels, value_of_form, montgomery_canonical}

-- modulo m, f represents the value v
abbrev pub Stands : ℕ → ℕ → ℕ → ℕ → Type 0
Stands w m f v = Represents (montgomery_form w) m f v

-- so that a call which makes f keeps its promise
abbrev pub Made : ℕ → ℕ → ℕ → ℕ → Type 0
Made w m f v = Answered (montgomery_form w) (montgomery_value w) m f v

-- f is a checked form modulo m
abbrev pub Checked : ℕ → ℕ → ℕ → Type 0
Checked w m f = IsForm (montgomery_form w) (montgomery_value w) m f

-- what x leaves leaves the same
pub same_residue : (x n : ℕ) {y : ℕ} → y ≡ x % n → y % n ≡ x % n
same_residue x n e = ap (λ z. z % n) e ∙ mod-mod x n

-- the residue of a difference is below m
pub residue_of_difference_below_modulus : (m v x : ℕ) → 0 < m → residue m (pos v -ℤ pos x) < m
residue_of_difference_below_modulus m v x some = (residue_is m (pos v -ℤ pos x) some).below

module _ {w b m i square : ℕ} (r : IsOddRing w b m i square) where
  -- the form of x modulo m
  pub made : (x : ℕ) {f : ℕ} → f ≡ (x * b) % m → Made w m f (x % m)
  made x e =
      answered_by_form (montgomery_canonical r) (record {
        below = mod-lt x (positive r);
        same = e ∙ sym (mul-mod_first x b m) ∙ ap (λ n. (x % m * n) % m) r.base;
      })

  -- what reduces x * b * b is the form of x modulo m
  reduced_made : (x : ℕ) {t f : ℕ} → t % m ≡ (x * b * b) % m → IsReduction b m t f → Made w m f (x % m)
  reduced_made x {t} {f} e is = made x (sym (mod-eq_of_lt is.below) ∙ base_cancels r f (x * b) (is.congruent ∙ e))

  -- a form is its value times the base
  form_is : {f : ℕ} → Checked w m f → f ≡ (montgomery_value w m f * b) % m
  form_is {f} is = is.same ∙ ap (λ n. (montgomery_value w m f * n) % m) (sym r.base)

  same_form : {f : ℕ} → Checked w m f → f % m ≡ (montgomery_value w m f * b) % m
  same_form {f} is = same_residue (montgomery_value w m f * b) m (form_is is)

  -- a form is below the modulus
  pub form_below : {f : ℕ} → Checked w m f → f < m
  form_below {f} is = omega (arith, form_is is, mod-lt (montgomery_value w m f * b) (positive r))

  -- what reduces a form is its value
  pub value_stands : {t f u : ℕ} → f < m → t ≡ f → IsReduction b m t u → Stands w m f u
  value_stands {t} {f} {u} hf et is = grind (arith, mod-eq_of_lt)

  -- each number below the modulus is a form
  pub below_is_form : (f : ℕ) → f < m → Checked w m f
  below_is_form f h =
      let j = (m * i + 1) / b in
      let e : (f * j % m * b) % m ≡ f % m =
      mul-mod_first (f * j) b m ∙ ap (λ n. n % m) (omega arith)
      ∙ same_product m f f (b * j) 1 refl (base_inverse b m i (omega (arith, r.fits)) r.inverse)
      ∙ ap (λ n. n % m) (omega arith) in
      form_of_value (montgomery_canonical r)
      (value_stands h refl (record { below = mod-lt (f * j) (positive r); congruent = e }))

  -- the sum of two forms is the form of the sum
  pub sum_made : {f g h : ℕ} → Checked w m f → Checked w m g → h ≡ (f + g) % m
      → Made w m h ((montgomery_value w m f + montgomery_value w m g) % m)
  sum_made {f} {g} isf isg eh =
      made _ (eh ∙ same_sum _ _ _ _ _ (same_form isf) (same_form isg) ∙ ap (λ n. n % m) (omega arith))

  -- the double of a form is the form of the double
  pub double_made : {f h : ℕ} → Checked w m f → h ≡ (2 * f) % m → Made w m h ((2 * montgomery_value w m f) % m)
  double_made {f} is eh =
      made _ (eh ∙ same_product _ 2 2 _ _ refl (same_form is) ∙ ap (λ n. n % m) (omega arith))

  -- the reduction of a product of two forms is the form of the product
  pub product_made : {f g t h : ℕ} → Checked w m f → Checked w m g → t ≡ f * g → IsReduction b m t h
      → Made w m h ((montgomery_value w m f * montgomery_value w m g) % m)
  product_made {f} {g} isf isg et is =
      reduced_made _
      (ap (λ n. n % m) et ∙ same_product _ _ _ _ _ (same_form isf) (same_form isg) ∙ ap (λ n. n % m) (omega arith)) is

  -- a word as a double word
  pub extended_below : {t f z : ℕ} → f < m → t ≡ f + b * z → z ≡ 0 → (t ≡ f) × (t < b * m)
  extended_below {t} {f} {z} h e ez = grind (arith, mul-le-mul_left, positive)

  -- a form times what reduces another, as a double word, is the form of the product
  pub scaled_made : {f g t o u h : ℕ} → Checked w m f → Checked w m g → t ≡ g + b * o → o ≡ 0 → IsReduction b m t u
      → h ≡ (f * u) % m → Made w m h ((montgomery_value w m f * montgomery_value w m g) % m)
  scaled_made {f} {g} {t} {o} {u} isf isg et eo is eh =
      let below = form_below isg in
      let u_is = value_of_form r (value_stands below (extended_below below et eo).0 is) in
      made _ (eh ∙ same_product _ _ _ _ _ (same_form isf) (ap (λ n. n % m) (sym u_is)) ∙ ap (λ n. n % m) (omega arith))

  -- what reduces a form times the base and a sum of products of forms is the form of the sum
  pub products_made : {f h : ℕ} (n : ℕ) (x y : ℕ → ℕ) → Checked w m f → ((i : ℕ) → i < n → Checked w m (x i))
      → ((i : ℕ) → i < n → Checked w m (y i)) → h < m
      → Congruent m (h * b) (f * b + sum_below n (λ i. x i * y i))
      → Made w m h ((montgomery_value w m f
      + sum_below n (λ i. montgomery_value w m (x i) * montgomery_value w m (y i))) % m)
  products_made {f} {h} n x y isf isx isy below is =
      let v = montgomery_value w m in
      let products = sum_below n (λ i. v (x i) * v (y i)) in
      let same : (g : ℕ) → Checked w m g → Congruent m g (v g * b) = λ g isg. record { same = same_form isg } in
      let each : (i : ℕ) → i < n → Congruent m (x i * y i) (b * b * (v (x i) * v (y i))) =
      λ i l. mod_trans (mod_mul (same (x i) (isx i l)) (same (y i) (isy i l))) (mod_of_eq (omega arith)) in
      let sum : Congruent m (sum_below n (λ i. x i * y i)) (b * b * products) =
      mod_trans (sum_below-congruent n (λ i. x i * y i) (λ i. b * b * (v (x i) * v (y i))) each)
      (mod_of_eq (sum_below-mul n (b * b) (λ i. v (x i) * v (y i)))) in
      let whole : v f * b * b + b * b * products ≡ (v f + products) * b * b = omega arith in
      reduced_made (v f + products) (mod_trans (mod_add (mod_mul (same f isf) (mod_refl b)) sum) (mod_of_eq whole)).same
      (record { below = below; congruent = is.same })

  -- the difference of two forms is the form of the difference
  pub difference_made : {f g h : ℕ} → Checked w m f → Checked w m g → h ≡ residue m (pos f -ℤ pos g)
      → Made w m h (residue m (pos (montgomery_value w m f) -ℤ pos (montgomery_value w m g)))
  difference_made {f} {g} {h} isf isg eh =
      let v = montgomery_value w m f in
      let x = montgomery_value w m g in
      let d = residue m (pos v -ℤ pos x) in
      let some = positive r in
      let hh : h < m = omega (arith, eh, residue_of_difference_below_modulus m f g some) in
      let sum : (h + x * b) % m ≡ (d * b + x * b) % m =
      same_sum m h h (x * b) g refl (sym (same_form isg)) ∙ ap (λ n. (n + g) % m) eh
      ∙ difference_and m f g some ∙ same_form isf ∙ same_product m v (d + x) b b (sym (difference_and m v x some)) refl
      ∙ ap (λ n. n % m) (omega arith) in
      subst (Made w m h) (mod-eq_of_lt (residue_of_difference_below_modulus m v x some))
      (made d (sym (mod-eq_of_lt hh) ∙ same_without m h (d * b) (x * b) some sum))

  -- and the reduction of its product with a form is the form of the product
  pub difference_product_made : {f g d x t h : ℕ} → Checked w m f → Checked w m g → d ≡ residue m (pos f -ℤ pos g)
      → Checked w m x → t ≡ d * x → IsReduction b m t h
      → Made w m h ((residue m (pos (montgomery_value w m f) -ℤ pos (montgomery_value w m g))
      * montgomery_value w m x) % m)
  difference_product_made {f} {g} {d} {x} {t} {h} isf isg ed isx et is =
      let difference = difference_made isf isg ed in
      subst (λ v. Made w m h ((v * montgomery_value w m x) % m)) difference.value
      (product_made difference.checked isx et is)

  -- the reduction of n times the square of the base is the form of n
  pub transform_made : (n : ℕ) {t h : ℕ} → t ≡ n * square → IsReduction b m t h → Made w m h (n % m)
  transform_made n et is =
      reduced_made n
      (ap (λ o. o % m) et ∙ same_product m n n _ _ refl (same_residue _ m r.is_square)
      ∙ ap (λ o. o % m) (omega arith)) is

  -- 0 is the form of 0
  pub zero_made : {n : ℕ} → n ≡ 0 → Made w m n (n % m)
  zero_made {n} e = made n (grind (arith, mod-eq_of_lt, positive))

  pub zero_value : montgomery_value w m 0 ≡ 0
  zero_value = (zero_made refl).value ∙ mod-eq_of_lt (positive r)

  -- and of no other value
  pub zero_iff : {f : ℕ} → Checked w m f → (f ≡ 0) ↔ (montgomery_value w m f ≡ 0)
  zero_iff is = grind (arith, zero_value, below_is_form, positive)

  -- the negative of a form is the form of the negative
  pub negative_made : {f h : ℕ} → Checked w m f → h ≡ residue m (neg_ℤ (pos f))
      → Made w m h (residue m (neg_ℤ (pos (montgomery_value w m f))))
  negative_made {f} {h} is eh =
      let v = montgomery_value w m f in
      let minus : (n : ℕ) → pos 0 -ℤ pos n ≡ neg_ℤ (pos n) = λ n. omega (arith, ints) in
      grind (arith, Made, zero_value, difference_made, below_is_form, positive)
