-- Laws of the forms in two parts: each value has exactly one form, and each form exactly one value. Proofs that the
-- impl declares; the names are the library's own words.
use Rattle.std.proofs.Common.{◌≡◌, ℕ, ◌+◌, ◌-◌, ◌*◌, ◌/◌, ◌%◌, ◌^◌, ◌<◌, ◌≤◌, sym, ap, ap₂, ◌∙◌, arith}
use Rattle.std.proofs.Math.Nat.{mod-lt, mod-eq_of_lt, div-add-mod, mul-div_cancel, mul-le-mul_right}
use Rattle.std.proofs.lemmas.Nat.{pow_pos, pow-add, div_below, mul-add-lt, same_from_place}
use Rattle.modular_word.proofs.Congruence.{same_without, same_without_negated_unit, mod_of_multiple, next_is_multiple}
use Rattle.modular_reduced.specs.Forms.{Represents, IsCanonical}
use Rattle.modular_monty.specs.Montgomery.{montgomery_form}
use Rattle.modular_monty.specs.TwoParts.{even_part, odd_part, two_part_form, two_part_value, IsTwoPartRing}
use Rattle.modular_monty.specs.MontgomeryLaws.{positive, base_cancels, value_below-found}

module _ {w b m s k i square : ℕ} (r : IsTwoPartRing w b m s k i square) where
  even_part_is : even_part w m ≡ 2 ^ s
  even_part_is = ap (λ n. 2 ^ n) (sym r.twos)

  -- the odd part is the stored one
  pub odd_part_is : odd_part w m ≡ k
  odd_part_is = ap (λ n. m / n) even_part_is ∙ ap (λ n. n / 2 ^ s) (sym r.whole) ∙ mul-div_cancel k (pow_pos s)

  -- the form of v, by the stored odd part and exponent
  pub form_is : (v : ℕ) → two_part_form w m v ≡ montgomery_form w k v * 2 ^ s + v % 2 ^ s
  unfolding two_part_form
  form_is v = ap₂ (λ n q. montgomery_form w n v * q + v % q) odd_part_is even_part_is

  -- the modulus is not 0
  pub modulus_positive : 0 < m
  modulus_positive =
      let least : 1 * 2 ^ s ≤ k * 2 ^ s = mul-le-mul_right (2 ^ s) (positive r.odd) in
      omega (arith, r.whole, pow_pos s)

  -- two parts form a number below m
  pub parts_below : {u l : ℕ} → u < k → l < 2 ^ s → u * 2 ^ s + l < m
  parts_below {u} {l} hu hl =
      let below : u * 2 ^ s + l < 2 ^ s * k = mul-add-lt u (2 ^ s) l k hu hl in
      omega (arith, r.whole)

  -- a form is below the modulus
  pub form_less : (v : ℕ) → two_part_form w m v < m
  form_less v =
      let below = parts_below (mod-lt (v * 2 ^ w) (positive r.odd)) (mod-lt v (pow_pos s)) in
      omega (arith, form_is v, below)

  -- what is congruent modulo the base is congruent modulo the power of two
  pub within : (x y : ℕ) → x % b ≡ y % b → x % 2 ^ s ≡ y % 2 ^ s
  within x y e =
      let parted : b ≡ 2 ^ s * 2 ^ (w - s) =
      r.odd.base ∙ ap (λ n. 2 ^ n) (let f : w ≡ s + (w - s) = omega (arith, r.few) in f) ∙ pow-add 2 s (w - s) in
      let down : (n : ℕ) → n % b % 2 ^ s ≡ n % 2 ^ s =
      λ n. ap (λ o. n % o % 2 ^ s) parted ∙ mod_of_multiple (2 ^ s) (2 ^ (w - s)) n in
      sym (down x) ∙ ap (λ n. n % 2 ^ s) e ∙ down y

  -- the negated inverse is a negated inverse modulo the power of two as well
  pub negated_inverse : (k * i + 1) % 2 ^ s ≡ 0 % 2 ^ s
  negated_inverse =
      within (k * i + 1) 0 (next_is_multiple b (k * i) (omega (arith, r.fits)) r.odd.inverse.product)

  -- numbers below m that are congruent modulo the odd part and modulo the power of two are equal
  pub one_below : (v x : ℕ) → v < m → x < m → v % k ≡ x % k → v % 2 ^ s ≡ x % 2 ^ s → v ≡ x
  one_below v x hv hx high low =
      let q = 2 ^ s in
      let turns : (n : ℕ) → n < m → n / k < q =
      λ n l. div_below n k q (positive r.odd) (omega (arith, r.whole)) in
      let whole : (n : ℕ) → n / k * k + n % k ≡ n =
      λ n. let e : k * (n / k) + n % k ≡ n = div-add-mod n k in omega arith in
      let sums : (v / k * k + v % k) % q ≡ (x / k * k + v % k) % q =
      ap (λ n. n % q) (whole v) ∙ low ∙ ap (λ n. n % q) (sym (whole x) ∙ ap (λ n. x / k * k + n) (sym high)) in
      let same : (v / k) % q ≡ (x / k) % q =
      same_without_negated_unit q (v / k) (x / k) k i (pow_pos s) (negated_inverse)
      (same_without q (v / k * k) (x / k * k) (v % k) (pow_pos s) sums) in
      let one : v / k ≡ x / k = sym (mod-eq_of_lt (turns v hv)) ∙ same ∙ mod-eq_of_lt (turns x hx) in
      sym (whole v) ∙ ap₂ (λ n o. n * k + o) one high ∙ whole x

  -- values with the same form are equal
  form_injective : (v x : ℕ) → v < m → x < m → two_part_form w m x ≡ two_part_form w m v → x ≡ v
  form_injective v x hv hx e =
      let low : (n : ℕ) → n % 2 ^ s < 2 ^ s = λ n. mod-lt n (pow_pos s) in
      let parts =
      same_from_place (montgomery_form w k x) (x % 2 ^ s) (montgomery_form w k v) (v % 2 ^ s) (2 ^ s) (low x) (low v)
      (sym (form_is x) ∙ e ∙ form_is v) in
      let by_base : (n : ℕ) → (n * b) % k ≡ montgomery_form w k n = λ n. ap (λ o. (n * o) % k) r.odd.base in
      one_below x v hx hv (base_cancels r.odd x v (by_base x ∙ parts.0 ∙ sym (by_base v))) parts.1

  -- the value of the form of v is v
  pub two_part_value_of : {f v : ℕ} → Represents (two_part_form w) m f v → two_part_value w m f ≡ v
  two_part_value_of {f} {v} h =
      value_below-found (two_part_form w m) m v f
      (λ x l e. form_injective v x h.below l (e ∙ h.same)) h.below (sym h.same)

  -- each value has exactly one form, a word, and each form exactly one value
  pub two_part_canonical : IsCanonical (two_part_form w) (two_part_value w) w m
  two_part_canonical = record {
    positive = modulus_positive;
    one_value = λ f v h. two_part_value_of h;
    fits = λ v h. omega (arith, form_less v, r.fits, r.odd.base);
  }
