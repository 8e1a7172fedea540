-- The arithmetic of products by a precomputed quotient, in words of which there are b.
use Rattle.std.proofs.Common.{◌≡◌, ℕ, ◌+◌, ◌-◌, ◌*◌, ◌/◌, ◌%◌, ◌^◌, ◌<◌, ◌≤◌, sym, ap, ◌∙◌, arith}
use Rattle.std.proofs.Math.Nat.{mod-lt, div-add-mod, mod-eq_of_lt}
use Rattle.std.proofs.Math.Nat.{lt_of_mul-lt-mul_right, le_of_mul-le-mul_right}
use Rattle.std.proofs.Math.Nat.{add-mul-mod_self_right, add-mod}
use Rattle.std.proofs.lemmas.Nat.{div-mul-add, mul-lt, pow-add}
use Rattle.modular_word.specs.Congruence.{Congruent}
use Rattle.modular_word.specs.Division.{IsDivision}
use Rattle.modular_word.specs.Reciprocals.{IsReciprocal}
use Rattle.modular_word.proofs.Congruence.{mod_of_eq, mod_refl, mod_trans, mod_add, residue_of, mod_cancel}
use Rattle.modular_reduced.specs.Factors.{IsFactor}
use Rattle.modular_reduced.proofs.FixedFactors.{IsNear}

-- the quotient of scaled numbers is the quotient
pub scaled_quotient : (b m w s q r : ℕ) → 0 < s → IsDivision (b * (w * s)) (m * s) q r → q ≡ w * b / m
scaled_quotient b m w s q r some h =
    let at_most : q * m ≤ w * b = le_of_mul-le-mul_right (omega arith) some in
    let rest : q * m + (w * b - q * m) ≡ w * b = omega (arith, at_most) in
    let scaled : (q * m + (w * b - q * m)) * s ≡ (w * b) * s = ap (λ v. v * s) rest in
    let less : w * b - q * m < m = lt_of_mul-lt-mul_right s (omega (arith, scaled, h.below)) in
    sym (ap (λ v. v / m) (sym rest) ∙ div-mul-add q m (w * b - q * m) less)

-- the word that is left
pub record IsProduct (m product r : ℕ) : Type 0 where
  pub below : r < 2 * m
  pub congruent : Congruent m r product

pub left_less : (m product whole r : ℕ) → IsNear m product whole → r + whole * m ≡ product → IsProduct m product r
left_less m product whole r near_it e = grind (arith, add-mul-mod_self_right)

pub left_over : (b m product whole p t r : ℕ) → 0 < b → 2 * m ≤ b → IsNear m product whole → p ≡ product % b
    → t ≡ (whole * m) % b → r < b → (r + t) % b ≡ p
    → IsProduct m product r
left_over b m product whole p t r some room near_it is_p is_t fits e =
    let rest : ℕ = product - whole * m in
    let small : rest < b = omega arith in
    let t_fits : t % b ≡ t = grind (arith, mod-lt, mod-eq_of_lt) in
    let again : (rest + t) % b ≡ p = grind (arith, add-mod) in
    let same : r ≡ rest = mod_cancel b r rest t fits small (e ∙ sym again) in
    grind (arith, left_less)

-- a part_of_power of 2 ^ w
pub part_of_power : (k w b f : ℕ) → b ≡ 2 ^ w → k ≤ w → f ≡ 2 ^ (w - k) → 2 ^ k * f ≡ b
part_of_power k w b f is_b wide is_f = grind (arith, pow-add)

-- a divisor with a reciprocal is a word
pub divisor_fits : {b d v : ℕ} → IsReciprocal b d v → d < b
divisor_fits {b} {d} {v} is = grind (arith, lt_of_mul-lt-mul_right)

-- any word times a number below d
pub any_times_below : (b d x y : ℕ) → x < b → y < d → x * y < d * b
any_times_below b d x y fits less = omega (arith, mul-lt x y b d fits less)

-- the rest of scaled numbers is the rest, scaled
pub scaled_rest : (m x y s q r : ℕ) → 0 < s → IsDivision (x * s * y) (m * s) q r → r / s ≡ (x * y) % m
scaled_rest m x y s q r some h =
    let left : (q * m) * s ≤ (x * y) * s = omega arith in
    let at_most : q * m ≤ x * y = le_of_mul-le-mul_right left some in
    let k : ℕ = x * y - q * m in
    let rest : k + q * m ≡ x * y = omega (arith, at_most) in
    let scaled : (k + q * m) * s ≡ (x * y) * s = ap (λ v. v * s) rest in
    let less : k < m = lt_of_mul-lt-mul_right s (let l : k * s < m * s = omega (arith, h.below) in l) in
    grind (arith, div-mul-add k s 0 some, add-mul-mod_self_right k q m, mod-eq_of_lt less)

-- what the quotient of a factor leaves
pub left_by_quotient : (b m w q p r : ℕ) → 0 < m → m ≤ b → IsFactor b m w q → p ≡ (q * m) % b → (r + p) % b ≡ 0 → r < b
    → r ≡ (w * b) % m
left_by_quotient b m w q p r some room is is_p none fits =
    let whole : (w * b) % m + q * m ≡ 0 + w * b = omega (arith, div-add-mod (w * b) m, ap (λ v. m * v) is.quotient) in
    let all : Congruent b ((w * b) % m + p) 0 =
    mod_trans (mod_add (mod_refl ((w * b) % m)) (mod_trans (mod_of_eq is_p) (residue_of (q * m))))
    (mod_trans (mod_of_eq whole) (record { same = add-mul-mod_self_right 0 w b })) in
    mod_cancel b r ((w * b) % m) p fits (omega (arith, mod-lt (w * b) some, room)) (grind (arith, all.same))
