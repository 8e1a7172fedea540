-- The reciprocal of a divisor with its top bit set.
use Rattle.std.proofs.Common.{◌≡◌, ℕ, ◌+◌, ◌-◌, ◌*◌, ◌/◌, ◌%◌, ◌<◌, ◌≤◌, ap, sym, ◌∙◌, arith, ⊎_elim}
use Rattle.std.proofs.Math.Nat.{mod-lt, mod-eq_of_lt, mul-le-mul_left, add-mod_right, add-mul-div_left}
use Rattle.std.proofs.lemmas.Bool.{cases_lt}
use Rattle.modular_word.proofs.Congruence.{same_rest, mod_cancel}
use Rattle.modular_word.specs.Reciprocals.{IsReciprocal}

-- the low word of the quotient is the quotient less the base
reciprocal_is : (B d v a : ℕ) → d < B → B ≤ 2 * d → a + 1 ≡ B * B → v ≡ (a / d) % B
    → v + B ≡ a / d
reciprocal_is B d v a hd hn ea ev =
    let Q = a / d in
    let m2 : B * B ≤ B * (2 * d) = mul-le-mul_left _ hn in
    let low : B ≤ Q = grind (arith, mul-le-mul_left) in
    let high : Q < 2 * B =
    ⊎_elim (λ (h : Q < 2 * B). h)
    (λ (h : 2 * B ≤ Q). let m : d * (2 * B) ≤ d * Q = mul-le-mul_left _ h in absurd (omega arith)) (cases_lt Q _) in
    let e : (a / d) % B ≡ Q - B =
    same_rest B ((a / d) % B) (Q - B) ((a / d) / B) 1 (mod-lt _ (omega arith)) (omega arith) (omega arith) in
    omega arith

pub reciprocal_of : (B d v a : ℕ) → d < B → B ≤ 2 * d → a + 1 ≡ B * B → v ≡ (a / d) % B
    → IsReciprocal B d v
reciprocal_of B d v a hd hn ea ev =
    let e : d * (v + B) ≡ d * (a / d) = ap (λ n. d * n) (reciprocal_is _ _ _ _ hd hn ea ev) in
    record { normalized = hn; below = omega arith; close = omega arith }

-- the greatest double word, by its two words
pub greatest_is : (B x : ℕ) → x + 1 ≡ B → x + B * x + 1 ≡ B * B
greatest_is B x top =
    let square : B * (x + 1) ≡ B * B = ap (λ n. B * n) top in
    omega arith

-- less the divisor times the base it has the same low word of the quotient
pub reciprocal_of_less : (B d v x h : ℕ) → d < B → B ≤ 2 * d → x + 1 ≡ B → h < B → (h + d) % B ≡ x
    → v ≡ ((x + B * h) / d) % B → IsReciprocal B d v
reciprocal_of_less B d v x h hd hn top hh eh ev =
    let whole : (x - d + d) % B ≡ x = grind (arith, mod-eq_of_lt) in
    let less : h ≡ x - d = mod_cancel _ _ _ _ hh (omega arith) (eh ∙ sym whole) in
    let scaled : B * (h + d) ≡ B * x = ap (λ n. B * n) (let s : h + d ≡ x = omega arith in s) in
    let same : v ≡ ((x + B * h + d * B) / d) % B = grind (arith, add-mod_right, add-mul-div_left) in
    grind (arith, reciprocal_of, greatest_is)
