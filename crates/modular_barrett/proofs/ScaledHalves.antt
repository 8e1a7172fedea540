-- Halves of scaled forms, where 2 * m is below the base: then the divisor d and each form are even.
use Rattle.std.proofs.Common.{◌≡◌, ℕ, ◌+◌, ◌-◌, ◌*◌, ◌/◌, ◌%◌, ◌^◌, ◌<◌, ◌≤◌, pos, ◌-ℤ◌}
use Rattle.std.proofs.Common.{ap, ◌∙◌, arith, ⊎_elim}
use Rattle.std.specs.Int.Count.{count_leading_zeros}
use Rattle.std.proofs.lemmas.Nat.{pow-add}
use Rattle.std.proofs.lemmas.Bool.{cases_lt}
use Rattle.modular_word.specs.Residues.{residue}
use Rattle.modular_prim.proofs.Scaled.{scaled_remainder}
use Rattle.modular_barrett.specs.Scaling.{scale, scaled_value}
use Rattle.modular_barrett.proofs.ScaledLemmas.{IsScaledForm, form_below, residue_scaled}

-- the scale is even
even_scale : (w m d : ℕ) → d ≡ m * scale w m → 2 * m < 2 ^ w → 2 ^ w ≤ 2 * d
    → scale w m ≡ 2 * 2 ^ (count_leading_zeros w m - 1)
even_scale w m d is room top =
    let s = count_leading_zeros w m in
    ⊎_elim
    (λ (l : 0 < s).
    grind (arith, pow-add))
    (λ (l : s ≤ 0).
    grind arith)
    (cases_lt 0 s)

-- a multiple of it is twice_half_of_multiple its half
twice_half_of_multiple : (x n k a h : ℕ) → n ≡ 2 * k → a ≡ x * n → h ≡ a / 2 → 2 * h ≡ a
twice_half_of_multiple x n k a h even is half =
    let e : a ≡ 2 * (x * k) = is ∙ ap (λ v. x * v) even ∙ omega arith in
    omega (arith, e, half)

-- the halves_of_scaled of a divisor and of two words below it
pub record AreHalves (d a b p x y : ℕ) : Type 0 where
  pub divisor : 2 * p ≡ d
  pub left : 2 * x ≡ a
  pub right : 2 * y ≡ b
  pub left_below : x < p
  pub right_below : y < p

pub halves_of_scaled : (w m d a b p x y : ℕ) → d ≡ m * scale w m → 2 * m < 2 ^ w → 2 ^ w ≤ 2 * d
    → IsScaledForm w m a → IsScaledForm w m b → p ≡ d / 2 → x ≡ a / 2 → y ≡ b / 2 → AreHalves d a b p x y
halves_of_scaled w m d a b p x y is room top fa fb half_d half_a half_b =
    let k = 2 ^ (count_leading_zeros w m - 1) in
    let even : scale w m ≡ 2 * k = even_scale w m d is room top in
    let ed = twice_half_of_multiple m (scale w m) k d p even is half_d in
    let ea = twice_half_of_multiple (scaled_value w m a) (scale w m) k a x even fa.same half_a in
    let eb = twice_half_of_multiple (scaled_value w m b) (scale w m) k b y even fb.same half_b in
    let la = form_below w m d a is fa in
    let lb = form_below w m d b is fb in
    omega arith

-- the sum of the words, by that of the halves_of_scaled
pub sum_of_halves : (d a b p x y h r : ℕ) → AreHalves d a b p x y → h ≡ (x + y) % p → r ≡ h + h → r ≡ (a + b) % d
sum_of_halves d a b p x y h r are is_h is_r = grind (arith, scaled_remainder)

-- the difference
pub difference_of_halves : (d a b p x y h r : ℕ) → AreHalves d a b p x y → h ≡ residue p (pos x -ℤ pos y) → r ≡ h + h
    → r ≡ residue d (pos a -ℤ pos b)
difference_of_halves d a b p x y h r are is_h is_r =
    let first : x * 2 ≡ a = omega (arith, are.left) in
    let second : y * 2 ≡ b = omega (arith, are.right) in
    let divisor : p * 2 ≡ d = omega (arith, are.divisor) in
    let double : r ≡ h * 2 = omega (arith, is_r) in
    grind (arith, residue_scaled)
