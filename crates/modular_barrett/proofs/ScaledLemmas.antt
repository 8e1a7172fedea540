-- Forms that are scaled: what the operations on forms, modulo the scaled modulus, are to the values.
use Rattle.std.proofs.Common.{◌≡◌, ℕ, ◌+◌, ◌-◌, ◌*◌, ◌/◌, ◌%◌, ◌^◌, ◌<◌, ◌≤◌, pos}
use Rattle.std.proofs.Common.{◌-ℤ◌, neg_ℤ, sym, ap, ◌∙◌, subst, arith, ⊎_elim}
use Rattle.std.proofs.Math.Nat.{mod-lt, mul-le-mul_left, mul-le-mul_right, mul-lt-mul_of_pos_right}
use Rattle.std.proofs.lemmas.Bool.{cases_lt}
use Rattle.std.proofs.lemmas.Nat.{shl-shr, pow_pos, mul-lt}
use Rattle.std.proofs.lemmas.Int.{ints}
use Rattle.std.specs.Int.Count.{count_leading_zeros}
use Rattle.modular_prim.proofs.DigitSteps.{remainder_is}
use Rattle.modular_prim.proofs.Scaled.{scaled_remainder, scaled_to_top}
use Rattle.modular_word.specs.Division.{IsDivision}
use Rattle.modular_word.specs.Inverses.{IsInverse}
use Rattle.modular_word.specs.Residues.{residue}
use Rattle.modular_word.proofs.ResidueLemmas.{residue_is, residue_sub, residue_sub_wrapped}
use Rattle.modular_reduced.specs.Forms.{Represents, IsForm}
use Rattle.modular_barrett.specs.Scaling.{scale, scaled_form, scaled_value, IsScaling}

-- f is a scaled form modulo m
abbrev pub IsScaledForm : ℕ → ℕ → ℕ → Type 0
IsScaledForm w m f = IsForm (scaled_form w) (scaled_value w) m f

-- modulo m the scaled form f represents v
abbrev pub Stands : ℕ → ℕ → ℕ → ℕ → Type 0
Stands w m f v = Represents (scaled_form w) m f v

-- the divisor by the scale of the modulus
pub divisor_is : {w m d s : ℕ} → IsScaling w m d s → d ≡ m * scale w m
divisor_is {w} {m} {d} {s} is = is.scaled ∙ ap (λ n. m * 2 ^ n) is.zeros

some_scale : (w m : ℕ) → 0 < scale w m
some_scale w m = pow_pos (count_leading_zeros w m)

-- the remainder of a scaled number represents the remainder
pub stands_for : (w m d x r : ℕ) → 0 < m → d ≡ m * scale w m → r ≡ (x * scale w m) % d → Stands w m r (x % m)
stands_for w m d x r positive ed e = grind (arith, mod-lt, scaled_remainder, some_scale)

-- a form is below the scaled modulus
pub form_below : (w m d f : ℕ) → d ≡ m * scale w m → IsScaledForm w m f → f < d
form_below w m d f ed form = grind (arith, mul-lt-mul_of_pos_right, some_scale)

-- and so is a value
pub value_below : {w m d s v : ℕ} → IsScaling w m d s → v < m → v < d
value_below {w} {m} {d} {s} is below = grind (arith, mul-le-mul_left, pow_pos)

-- the value that a form represents is its value
pub value_is : (w m f v : ℕ) → Stands w m f v → v ≡ scaled_value w m f
value_is w m f v h = sym (ap (λ n. n / scale w m) h.same ∙ shl-shr v (count_leading_zeros w m))

-- sums of forms
pub sum_stands : (w m d a b r : ℕ) → 0 < m → d ≡ m * scale w m → IsScaledForm w m a → IsScaledForm w m b
    → r ≡ (a + b) % d → Stands w m r ((scaled_value w m a + scaled_value w m b) % m)
sum_stands w m d a b r positive ed fa fb e =
    let x = scaled_value w m a in
    let y = scaled_value w m b in
    let whole : a + b ≡ (x + y) * scale w m = omega (arith, fa.same, fb.same) in
    stands_for w m d (x + y) r positive ed (e ∙ ap (λ n. n % d) whole)

-- doubles of forms
pub double_stands : (w m d a r : ℕ) → 0 < m → d ≡ m * scale w m → IsScaledForm w m a
    → r ≡ (2 * a) % d → Stands w m r ((2 * scaled_value w m a) % m)
double_stands w m d a r positive ed fa e =
    let x = scaled_value w m a in
    let whole : 2 * a ≡ (2 * x) * scale w m = omega (arith, fa.same) in
    stands_for w m d (2 * x) r positive ed (e ∙ ap (λ n. n % d) whole)

-- a difference of scaled numbers is the scaled difference
pub residue_scaled : (m p x y : ℕ) → x < m → y < m → 0 < p
    → residue (m * p) (pos (x * p) -ℤ pos (y * p)) ≡ residue m (pos x -ℤ pos y) * p
residue_scaled m p x y hx hy hp =
    let ax : x * p < m * p = mul-lt-mul_of_pos_right hx hp in
    let ay : y * p < m * p = mul-lt-mul_of_pos_right hy hp in
    ⊎_elim
    (λ (h : x < y).
    let k : x * p < y * p = mul-lt-mul_of_pos_right h hp in
    let e : x * p + (m * p - y * p) ≡ (x + (m - y)) * p =
    let f : (m - y + y) * p ≡ m * p = ap (λ n. n * p) (let u : m - y + y ≡ m = omega arith in u) in omega arith in
    grind (arith, residue_sub_wrapped))
    (λ (h : y ≤ x).
    grind (arith, mul-le-mul_right, residue_sub))
    (cases_lt x y)

-- differences of forms
pub difference_stands : (w m d a b r : ℕ) → 0 < m → d ≡ m * scale w m → IsScaledForm w m a → IsScaledForm w m b
    → r ≡ residue d (pos a -ℤ pos b) → Stands w m r (residue m (pos (scaled_value w m a) -ℤ pos (scaled_value w m b)))
difference_stands w m d a b r positive ed fa fb e = grind (arith, residue_is, residue_scaled, some_scale)

-- negatives of forms, as differences from 0
pub negative_stands : (w m d a r : ℕ) → 0 < m → d ≡ m * scale w m → IsScaledForm w m a
    → r ≡ residue d (neg_ℤ (pos a)) → Stands w m r (residue m (neg_ℤ (pos (scaled_value w m a))))
negative_stands w m d a r positive ed fa e =
    let x = scaled_value w m a in
    let p = scale w m in
    let zero_less : (n : ℕ) → pos 0 -ℤ pos n ≡ neg_ℤ (pos n) = λ n. omega (arith, ints) in
    let scaled : residue (m * p) (neg_ℤ (pos (x * p))) ≡ residue m (neg_ℤ (pos x)) * p =
    ap (residue (m * p)) (sym (zero_less (x * p)))
    ∙ ap (λ n. residue (m * p) (pos n -ℤ pos (x * p))) (let z : 0 ≡ 0 * p = omega arith in z)
    ∙ residue_scaled m p 0 x positive fa.below (some_scale w m) ∙ ap (λ n. residue m n * p) (zero_less x) in
    grind (arith, residue_is, neg_ℤ)

-- the product of a value, that of the form a, and a form, divided by the scaled modulus
pub product_stands : (w m d a x b whole q r : ℕ) → 0 < m → d ≡ m * scale w m → Stands w m a x → IsScaledForm w m b
    → whole ≡ x * b → IsDivision whole d q r → Stands w m r ((scaled_value w m a * scaled_value w m b) % m)
product_stands w m d a x b whole q r positive ed stands fb ew division =
    let y = scaled_value w m b in
    let p = scale w m in
    let e : x * b ≡ x * (y * p) = ap (λ n. x * n) fb.same in
    let e' : whole ≡ (x * y) * p = omega arith in
    subst (λ v. Stands w m r ((v * y) % m)) (value_is w m a x stands)
    (stands_for w m d (x * y) r positive ed (remainder_is division ∙ ap (λ n. n % d) e'))

-- it fits the division
pub product_fits_division : (b m d s x y whole : ℕ) → d ≡ m * 2 ^ s → x < m → y < b → whole ≡ x * y → whole < d * b
product_fits_division b m d s x y whole ed hx hy e =
    let p : 0 < 2 ^ s = pow_pos s in
    let up : m * 1 ≤ m * 2 ^ s = mul-le-mul_left m p in
    let h : x * y < d * b = mul-lt x y d b (omega arith) hy in
    omega arith

-- a word scaled, divided by the scaled modulus
pub remainder_stands : (w m d s n whole q r : ℕ) → IsScaling w m d s → whole ≡ n * 2 ^ s → IsDivision whole d q r
    → Stands w m r (n % m)
remainder_stands w m d s n whole q r is e division =
    stands_for w m d n r is.positive (divisor_is is)
    (remainder_is division ∙ ap (λ v. v % d) (e ∙ ap (λ v. n * 2 ^ v) is.zeros))

-- it fits the division
pub scaled_number_fits_division : (w b m d s n whole : ℕ) → IsScaling w m d s → n < b → whole ≡ n * 2 ^ s
    → whole < d * b
scaled_number_fits_division w b m d s n whole is hn e =
    let p : 0 < 2 ^ s = pow_pos s in
    let up : 1 * 2 ^ s ≤ m * 2 ^ s = mul-le-mul_right (2 ^ s) is.positive in
    let h : n * 2 ^ s < b * 2 ^ s = mul-lt-mul_of_pos_right hn p in
    let k : b * 2 ^ s ≤ b * d = mul-le-mul_left b (omega (arith, is.scaled)) in
    omega arith

-- a number below the modulus, scaled
word_stands : (w m d s n r : ℕ) → IsScaling w m d s → n < m → r ≡ n * 2 ^ s → Stands w m r n
word_stands w m d s n r is h e = record { below = h; same = e ∙ ap (λ v. n * 2 ^ v) is.zeros }

-- what is kept for a modulus
pub scaling_of : (w b m d s : ℕ) → b ≡ 2 ^ w → 0 < m → m < b → s ≡ count_leading_zeros w m → d ≡ m * 2 ^ s
    → IsScaling w (d / 2 ^ s) d s
scaling_of w b m d s eb some below es ed =
    let top = scaled_to_top w b m s eb some below es in
    let back : m ≡ d / 2 ^ s = sym (ap (λ n. n / 2 ^ s) ed ∙ shl-shr m s) in
    grind arith

-- the inverse of the value of a form, scaled
pub inverse_stands : (w m d s modulus f v x r : ℕ) → IsScaling w m d s → modulus ≡ m → Stands w m f v
    → IsInverse modulus v x → r ≡ x * 2 ^ s
    → (y : ℕ) × IsInverse m (scaled_value w m f) y × Stands w m r y
inverse_stands w m d s modulus f v x r is em stands inverse e = grind (arith, value_is, word_stands)

pub no_inverse_stands : (w m modulus f v : ℕ) → modulus ≡ m → Stands w m f v → ((x : ℕ) → IsInverse modulus v x → ⊥)
    → (x : ℕ) → IsInverse m (scaled_value w m f) x → ⊥
no_inverse_stands w m modulus f v em stands none x h = grind (arith, value_is)
