-- Residues scaled by the power of two that takes the modulus to the top bit.
use Rattle.std.proofs.Common.{◌≡◌, ℕ, suc, ◌+◌, ◌*◌, ◌/◌, ◌%◌, ◌^◌, ◌<◌, ◌≤◌, sym, ap, ◌∙◌, subst, arith}
use Rattle.std.proofs.Math.Nat.{mod-lt, div-add-mod, mod-eq_of_lt, add-mod}
use Rattle.std.proofs.Math.Nat.{mul-lt-mul_of_pos_right, add-mul-mod_self_left, pow-succ'}
use Rattle.std.proofs.lemmas.Nat.{leading_top, shl_below, shl-shr, pow_pos, pow-add}
use Rattle.std.specs.Int.Count.{count_leading_zeros}
use Rattle.modular_word.proofs.Congruence.{mod_of_multiple}

-- m scaled by 2^s has its top bit set, and is a word
pub record IsNormalized (w b m s : ℕ) : Type 0 where
  pub inside : s < w
  pub fits : m * 2 ^ s < b
  pub top : b ≤ 2 * (m * 2 ^ s)

pub scaled_to_top : (w b m s : ℕ) → b ≡ 2 ^ w → 0 < m → m < b → s ≡ count_leading_zeros w m → IsNormalized w b m s
scaled_to_top w b m s eb some below es =
    let t = leading_top _ _ some (subst (λ n. m < n) eb below) in
    let whole : b ≡ 2 * (2 ^ t.0 * 2 ^ s) =
    eb ∙ ap (λ n. 2 ^ n) (let u : w ≡ suc (t.0 + s) = omega arith in u) ∙ pow-succ' _ (t.0 + s)
    ∙ ap (λ n. 2 * n) (pow-add _ t.0 _) in
    let power : 2 ^ (suc t.0 + s) ≡ b = ap (λ n. 2 ^ n) (let u : suc t.0 + s ≡ w = omega arith in u) ∙ sym eb in
    grind (arith, shl_below)

-- scaled numbers keep their order
pub scaled_below : (x m s : ℕ) → x < m → x * 2 ^ s < m * 2 ^ s
scaled_below x m s h = mul-lt-mul_of_pos_right h (pow_pos s)

-- the remainder of scaled numbers is the scaled remainder
pub scaled_remainder : (x m p : ℕ) → 0 < m → 0 < p → (x * p) % (m * p) ≡ x % m * p
scaled_remainder x m p hm hp =
    let g : (m * (x / m) + x % m) * p ≡ x * p = ap (λ n. n * p) (div-add-mod _ _) in
    let e : x * p ≡ x % m * p + m * p * (x / m) = omega arith in
    grind (arith, add-mul-mod_self_left, mod-eq_of_lt, mul-lt-mul_of_pos_right, mod-lt)

-- a scaled residue, unscaled, times a scaled residue leaves the scaled residue of the product
pub scaled_product_of : (m s d x y a b r : ℕ) → 0 < m → d ≡ m * 2 ^ s → a ≡ x * 2 ^ s
    → b ≡ y * 2 ^ s → r ≡ (a / 2 ^ s * b) % d
    → r ≡ x * y % m * 2 ^ s
scaled_product_of m s d x y a b r h ed ea eb er =
    let p : x * (y * 2 ^ s) ≡ x * y * 2 ^ s = omega arith in
    grind (arith, scaled_remainder, pow_pos, shl-shr)

-- a remainder by a multiple of m has the residue of its number, and so has its sum with a
pub sum_of_rest : (m p a b r : ℕ) → r ≡ b % (m * p) → (a + r) % m ≡ (a + b) % m
sum_of_rest m p a b r e =
    add-mod _ _ _ ∙ ap (λ v. (a % m + v) % m) (ap (λ v. v % m) e ∙ mod_of_multiple _ _ _) ∙ sym (add-mod _ _ _)

-- the same for the sum less the multiple
pub sum_less_multiple : (m p a b r x : ℕ) → r ≡ b % (m * p) → x + m * p ≡ a + r → x % m ≡ (a + b) % m
sum_less_multiple m p a b r x e h = sym (add-mul-mod_self_left x m p) ∙ ap (λ v. v % m) h ∙ sum_of_rest m p a b r e
