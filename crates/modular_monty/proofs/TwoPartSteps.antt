-- What each operation modulo m = k * 2^s makes of forms, k being odd.
use Rattle.std.proofs.Common.{◌≡◌, ℕ, ◌+◌, ◌-◌, ◌*◌, ◌/◌, ◌%◌, ◌^◌, ◌<◌, ◌↔◌, sym}
use Rattle.std.proofs.Common.{ap, ap₂, ◌∙◌, arith, refl, pos, ◌-ℤ◌, neg_ℤ, subst}
use Rattle.std.proofs.Math.Path.{fun_ext}
use Rattle.std.proofs.Math.Nat.{mod-lt, mod-mod, mod-eq_of_lt, add-mod_right}
use Rattle.std.proofs.Math.Nat.{add-mul-mod_self_left, div-add-mod, div-one, mod-one}
use Rattle.std.proofs.lemmas.Nat.{pow_pos, div_below, div-mul-add, mod-mul-add, mul-add-lt}
use Rattle.std.proofs.lemmas.Int.{ints}
use Rattle.modular_word.specs.Reduction.{IsReduction}
use Rattle.modular_word.specs.Residues.{residue}
use Rattle.modular_word.proofs.Congruence.{same_sum, same_product, same_without, mod_of_multiple, mod_of_multiple_left}
use Rattle.modular_word.proofs.ResidueLemmas.{difference_and}
use Rattle.modular_reduced.specs.Forms.{IsForm}
use Rattle.modular_reduced.proofs.FormLemmas.{Answered, ValueAnswered, answered_by_form, value_answered, form_of_value}
use Rattle.modular_monty.specs.Montgomery.{montgomery_form, montgomery_value}
use Rattle.modular_monty.specs.TwoParts.{two_part_form, two_part_value, IsTwoPartRing}
use Rattle.modular_monty.specs.MontgomeryLaws.{positive, value_of_form}
use Rattle.modular_monty.specs.TwoPartLaws.{form_is, modulus_positive, form_less, within, negated_inverse}
use Rattle.modular_monty.specs.TwoPartLaws.{two_part_canonical}
use Rattle.modular_monty.proofs.MontgomerySteps as odd

-- the clauses of a call that returns f, which represents the value v modulo m
abbrev pub Made : ℕ → ℕ → ℕ → ℕ → Type 0
Made w m f v = Answered (two_part_form w) (two_part_value w) m f v

-- f is a checked form modulo m
abbrev pub Checked : ℕ → ℕ → ℕ → Type 0
Checked w m f = IsForm (two_part_form w) (two_part_value w) m f

-- for an odd modulus a form is its high part
pub all_high : (s f : ℕ) → s ≡ 0 → f ≡ f / 2 ^ s
all_high s f e = sym (ap (λ n. f / 2 ^ n) e ∙ div-one f)

pub unshifted_part_is_whole : (s u l : ℕ) → s ≡ 0 → u ≡ u * 2 ^ s + l % 2 ^ s
unshifted_part_is_whole s u l e = sym (ap (λ n. u * 2 ^ n + l % 2 ^ n) e ∙ omega (arith, mod-one l))

-- the parts of a form f of the value v
pub record HasParts (w m s k f v : ℕ) : Type 0 where
  pub high : odd.Stands w k (f / 2 ^ s) (v % k)
  pub low : f % 2 ^ s ≡ v % 2 ^ s
  pub below : f < m

module _ {w b m s k i square : ℕ} (r : IsTwoPartRing w b m s k i square) where
  -- what is congruent modulo m is so modulo its two parts
  by_parts : (x y : ℕ) → x % m ≡ y % m → (x % k ≡ y % k) × (x % 2 ^ s ≡ y % 2 ^ s)
  by_parts x y e =
      let q = 2 ^ s in
      let whole : x % (k * q) ≡ y % (k * q) = ap (λ n. x % n) r.whole ∙ e ∙ ap (λ n. y % n) (sym r.whole) in (
        search (arith, mod_of_multiple k q),
        search (arith, mod_of_multiple_left q k),
      )

  -- two parts that represent x give the form of x modulo m
  pub made : (x l : ℕ) {u v f : ℕ} → odd.Stands w k u v → v ≡ x % k → l % 2 ^ s ≡ x % 2 ^ s → f ≡ u * 2 ^ s + l % 2 ^ s
      → Made w m f (x % m)
  made x l {u} {v} {f} high ev el ef =
      let parts = by_parts (x % m) x (mod-mod x m) in
      let eu : u ≡ montgomery_form w k (x % m) =
      high.same ∙ same_product k v (x % m) (2 ^ w) (2 ^ w) (odd.same_residue x k ev ∙ sym parts.0) refl in
      answered_by_form (two_part_canonical r) (record {
        below = mod-lt x (modulus_positive r);
        same = ef ∙ ap₂ (λ n o. n * 2 ^ s + o) eu (el ∙ sym parts.1) ∙ sym (form_is r (x % m));
      })

  pub parts : {f : ℕ} → Checked w m f → HasParts w m s k f (two_part_value w m f)
  parts {f} is =
      let v = two_part_value w m f in
      let u = montgomery_form w k v in
      let e : f ≡ u * 2 ^ s + v % 2 ^ s = is.same ∙ form_is r v in
      let below = mod-lt v (pow_pos s) in
      let high : f / 2 ^ s ≡ u = ap (λ n. n / 2 ^ s) e ∙ div-mul-add u (2 ^ s) (v % 2 ^ s) below in
      grind (arith, mod-lt, positive, same_product, mod-mod, mod-mul-add, form_less)

  -- the high part of a form is a form modulo the odd part
  pub high_checked : {f y : ℕ} → Checked w m f → y ≡ f / 2 ^ s → odd.Checked w k y
  high_checked {f} {y} is ey =
      let high = (parts is).high in
      let below : f / 2 ^ s < k = omega (arith, high.same, mod-lt (two_part_value w m f % k * 2 ^ w) (positive r.odd))
      in
      odd.below_is_form r.odd y (omega (arith, below))

  -- and of its value
  high_value : {f y : ℕ} → Checked w m f → y ≡ f / 2 ^ s → montgomery_value w k y ≡ two_part_value w m f % k
  high_value is ey = ap (montgomery_value w k) ey ∙ value_of_form r.odd (parts is).high

  -- the words that wrap at the base are right modulo the power of two
  pub low_word : (x : ℕ) {t : ℕ} → t ≡ x % b → t % 2 ^ s ≡ x % 2 ^ s
  low_word x {t} e = within r t x (odd.same_residue x b e)

  -- an operation that keeps congruence, as the sum and the product, on two forms
  pub operation_made : (op : ℕ → ℕ → ℕ) → ((n a c d e : ℕ) → a % n ≡ c % n → d % n ≡ e % n → op a d % n ≡ op c e % n)
      → {f g y z u t h : ℕ}
      → Checked w m f → Checked w m g → y ≡ f / 2 ^ s → z ≡ g / 2 ^ s
      → odd.Stands w k u (op (montgomery_value w k y) (montgomery_value w k z) % k)
      → t ≡ op f g % b → h ≡ u * 2 ^ s + t % 2 ^ s → Made w m h (op (two_part_value w m f) (two_part_value w m g) % m)
  operation_made op same {f} {g} {y} {z} {u} {t} isf isg ey ez eu et eh =
      made _ t eu (same _ _ _ _ _ (odd.same_residue _ k (high_value isf ey)) (odd.same_residue _ k (high_value isg ez)))
      (low_word (op f g) et ∙ same _ _ _ _ _ (parts isf).low (parts isg).low) eh

  -- the product of two forms, by what reduces the high part of one
  pub scaled_made : {f g y z a o u x t h : ℕ} → Checked w m f → Checked w m g → y ≡ f / 2 ^ s → z ≡ g / 2 ^ s
      → a ≡ z + b * o → o ≡ 0 → IsReduction b k a u → x ≡ (y * u) % k → t ≡ (f * g) % b → h ≡ x * 2 ^ s + t % 2 ^ s
      → Made w m h ((two_part_value w m f * two_part_value w m g) % m)
  scaled_made isf isg ey ez ea eo is ex et eh =
      let high = odd.scaled_made r.odd (high_checked isf ey) (high_checked isg ez) ea eo is ex in
      operation_made (λ x y. x * y) same_product isf isg ey ez high.form et eh

  -- the difference of the high parts is the high part of the difference
  high_difference : {f g y z : ℕ} → Checked w m f → Checked w m g → y ≡ f / 2 ^ s → z ≡ g / 2 ^ s
      → residue k (pos (montgomery_value w k y) -ℤ pos (montgomery_value w k z))
      ≡ residue m (pos (two_part_value w m f) -ℤ pos (two_part_value w m g)) % k
  high_difference {f} {g} {y} {z} isf isg ey ez =
      let v = two_part_value w m f in
      let x = two_part_value w m g in
      let vy = montgomery_value w k y in
      let vz = montgomery_value w k z in
      let some = positive r.odd in
      let d = residue m (pos v -ℤ pos x) in
      let c = residue k (pos vy -ℤ pos vz) in
      let back = by_parts (d + x) v (difference_and m v x (modulus_positive r)) in
      let sum : (c + x) % k ≡ (d + x) % k =
      same_sum k c c x vz refl (sym (odd.same_residue x k (high_value isg ez)))
      ∙ difference_and k vy vz some ∙ odd.same_residue v k (high_value isf ey) ∙ sym back.0 in
      sym (mod-eq_of_lt (odd.residue_of_difference_below_modulus k vy vz some)) ∙ same_without k c d x some sum

  -- the difference of two forms
  pub difference_made : (t : ℕ) {f g y z u h : ℕ} → Checked w m f → Checked w m g → y ≡ f / 2 ^ s → z ≡ g / 2 ^ s
      → odd.Stands w k u (residue k (pos (montgomery_value w k y) -ℤ pos (montgomery_value w k z)))
      → (t + g) % 2 ^ s ≡ f % 2 ^ s → h ≡ u * 2 ^ s + t % 2 ^ s
      → Made w m h (residue m (pos (two_part_value w m f) -ℤ pos (two_part_value w m g)))
  difference_made t {f} {g} {y} {z} {u} {h} isf isg ey ez eu et eh =
      let v = two_part_value w m f in
      let x = two_part_value w m g in
      let d = residue m (pos v -ℤ pos x) in
      let less = odd.residue_of_difference_below_modulus m v x (modulus_positive r) in
      let back = by_parts (d + x) v (difference_and m v x (modulus_positive r)) in
      let low_sum : (t + x) % 2 ^ s ≡ (d + x) % 2 ^ s =
      same_sum (2 ^ s) t t x g refl (sym (parts isg).low) ∙ et ∙ (parts isf).low ∙ sym back.1 in
      subst (Made w m h) (mod-eq_of_lt less)
      (made d t eu (high_difference isf isg ey ez) (same_without (2 ^ s) t d x (pow_pos s) low_sum) eh)

  -- a number below the odd part, and fewer than 2^s times the odd part, are below the modulus
  pub turns_below : (x : ℕ) {u steps : ℕ} → u < k → steps ≡ x % 2 ^ s → u + k * steps < m
  turns_below x {u} {steps} h few = grind (arith, mul-add-lt, mod-lt, pow_pos)

  -- so the sum fits a word
  pub turns_fit : (x : ℕ) {u steps t : ℕ} → u < k → steps ≡ x % 2 ^ s → t ≡ k * steps → u + t < b
  turns_fit x h few e = omega (arith, e, turns_below x h few, r.fits)

  -- the value of a form, u being its value modulo the odd part
  pub value_made : (d : ℕ) {f y u steps v : ℕ} → y ≡ f / 2 ^ s → odd.Stands w k y u
      → (d + f) % b ≡ u → steps ≡ (d * i) % 2 ^ s
      → v ≡ u + k * steps → ValueAnswered (two_part_form w) (two_part_value w) m f v
  value_made d {f} {y} {u} {steps} {v} ey of ed es ev =
      let q = 2 ^ s in
      let high : f / q ≡ montgomery_form w k v =
      grind (arith, same_product, add-mul-mod_self_left) in
      let turns : (k * steps + d) % q ≡ 0 % q =
      same_sum _ _ _ _ _ (same_product q k k steps (d * i) refl (odd.same_residue (d * i) q es)) refl
      ∙ ap (λ n. n % q) (omega arith) ∙ same_product q d d (k * i + 1) 0 refl (negated_inverse r)
      ∙ ap (λ n. n % q) (omega arith) in
      let low : v % q ≡ f % q =
      ap (λ n. n % q) ev ∙ same_sum q u (d + f) (k * steps) (k * steps) (low_word (d + f) (sym ed)) refl
      ∙ ap (λ n. n % q) (omega arith) ∙ same_sum q f f (k * steps + d) 0 refl turns ∙ ap (λ n. n % q) (omega arith) in
      let whole : f / q * q + f % q ≡ f = let e : q * (f / q) + f % q ≡ f = div-add-mod f q in omega arith in
      value_answered (two_part_canonical r) (record {
        below = omega (arith, ev, turns_below (d * i) of.below es);
        same = sym whole ∙ ap₂ (λ n o. n * q + o) high (sym low) ∙ sym (form_is r v);
      })

  -- each number below the modulus is a form
  pub below_is_form : (f : ℕ) → f < m → Checked w m f
  below_is_form f h =
      let high : f / 2 ^ s < k = div_below f (2 ^ s) k (pow_pos s) (omega (arith, r.whole)) in
      let of = odd.below_is_form r.odd (f / 2 ^ s) high in
      let u = montgomery_value w k (f / 2 ^ s) in
      let d = u + (b - f) in
      let ed : (d + f) % b ≡ u =
      ap (λ n. n % b) (omega (arith, r.fits)) ∙ add-mod_right u b
      ∙ mod-eq_of_lt (omega (arith, of.below, r.odd.fits)) in
      form_of_value (two_part_canonical r)
      (value_made d refl (record { below = of.below; same = of.same }) ed refl refl).form

  -- 0 is the form of 0
  zero_value : two_part_value w m 0 ≡ 0
  zero_value =
      (made 0 0 (odd.zero_made r.odd refl).form refl refl (omega (arith, mod-eq_of_lt (pow_pos s)))).value
      ∙ mod-eq_of_lt (modulus_positive r)

  -- and of no other value
  pub zero_iff : {f : ℕ} → Checked w m f → (f ≡ 0) ↔ (two_part_value w m f ≡ 0)
  zero_iff is = grind (arith, zero_value, below_is_form, modulus_positive)

  -- the difference of 0 and a form is the form of the negative
  pub negative_made : (f : ℕ) {z h : ℕ} → z ≡ 0
      → Made w m h (residue m (pos (two_part_value w m z) -ℤ pos (two_part_value w m f)))
      → Made w m h (residue m (neg_ℤ (pos (two_part_value w m f))))
  negative_made f {z} {h} e =
      let v = two_part_value w m f in
      let minus : pos 0 -ℤ pos v ≡ neg_ℤ (pos v) = omega (arith, ints) in
      grind (arith, Made, zero_value)

  -- ---- an odd modulus: its forms and values are those modulo the odd part
  odd_modulus : s ≡ 0 → m ≡ k
  odd_modulus e = omega (arith, ap (λ n. k * 2 ^ n) e, r.whole)

  odd_form : s ≡ 0 → (v : ℕ) → two_part_form w m v ≡ montgomery_form w k v
  odd_form e v = form_is r v ∙ ap (λ n. montgomery_form w k v * 2 ^ n + v % 2 ^ n) e ∙ omega (arith, mod-one v)

  odd_value : s ≡ 0 → (f : ℕ) → two_part_value w m f ≡ montgomery_value w k f
  odd_value e f = grind (arith, odd_modulus, odd_form)

  pub odd_checked : s ≡ 0 → {f : ℕ} → Checked w m f → odd.Checked w k f
  odd_checked e {f} is = grind (arith, odd_value, odd_modulus, odd_form)

  -- what represents a number computed from values modulo the odd part represents it
  pub odd_answered : s ≡ 0 → (v : (ℕ → ℕ) → ℕ → ℕ) → {h : ℕ} → odd.Stands w k h (v (montgomery_value w k) k)
      → Made w m h (v (two_part_value w m) m)
  odd_answered e v {h} is =
      let same : v (two_part_value w m) m ≡ v (montgomery_value w k) k =
      ap (λ (u : ℕ → ℕ). v u m) (fun_ext (odd_value e)) ∙ ap (v (montgomery_value w k)) (odd_modulus e) in
      answered_by_form (two_part_canonical r) (record {
        below = omega (arith, is.below, same, odd_modulus e);
        same = is.same ∙ ap (montgomery_form w k) (sym same) ∙ sym (odd_form e (v (two_part_value w m) m));
      })

  pub odd_value_answered : s ≡ 0 → {f u : ℕ} → odd.Stands w k f u
      → ValueAnswered (two_part_form w) (two_part_value w) m f u
  odd_value_answered e {f} {u} is =
      value_answered (two_part_canonical r)
      (record { below = omega (arith, is.below, odd_modulus e); same = is.same ∙ sym (odd_form e u) })
