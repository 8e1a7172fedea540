-- Products by a factor with its quotient, modulo any m below the base b: which of two words is the residue.
use Rattle.std.proofs.Common.{◌≡◌, ℕ, ◌+◌, ◌-◌, ◌*◌, ◌/◌, ◌%◌, ◌<◌, ◌≤◌, sym, ap, ◌∙◌, arith, ⊎_elim}
use Rattle.std.proofs.Math.Nat.{mod-lt, mod-mod, div-add-mod, mod-eq_of_lt, add-mod_right, add-mul-mod_self_right}
use Rattle.std.proofs.Math.Nat.{mul-le-mul_left, mul-le-mul_right, lt_of_mul-lt-mul_right, le_of_mul-le-mul_right}
use Rattle.std.proofs.Math.Nat.{add-mod}
use Rattle.std.proofs.lemmas.Bool.{cases_lt}
use Rattle.modular_word.proofs.Congruence.{mod_cancel, same_without}
use Rattle.modular_reduced.specs.Factors.{IsFactor}

-- x * w less the multiple of m that the quotient gives is below 2 * m
pub record IsNear (m product whole : ℕ) : Type 0 where
  pub at_most : whole * m ≤ product
  pub close : product < whole * m + 2 * m

-- the product by the base: that of the multiple, of the fraction and of what the quotient leaves
pub near_parts : (b m w q x low h : ℕ) → IsFactor b m w q → x * q ≡ low + b * h
    → (x * w) * b ≡ (h * m) * b + m * low + x * (w * b % m)
near_parts b m w q x low h is e =
    let f : m * (w * b / m) + w * b % m ≡ w * b = div-add-mod (w * b) m in
    let fq : m * q ≡ m * (w * b / m) = ap (λ v. m * v) is.quotient in
    let g : x * (m * q + w * b % m) ≡ x * (w * b) =
    ap (λ v. x * v) (let k : m * q + w * b % m ≡ w * b = omega (arith, f, fq) in k) in
    let me : m * (x * q) ≡ m * (low + b * h) = ap (λ v. m * v) e in
    omega (arith, g, me)

pub estimated_quotient_is_near : (b m w q x low h : ℕ) → IsFactor b m w q → x < b → x * q ≡ low + b * h → low < b
    → IsNear m (x * w) h
estimated_quotient_is_near b m w q x low h is fits e low_fits =
    let below : w < m = is.below in
    let l : w * b % m < m = mod-lt (w * b) (omega arith) in
    let whole : (x * w) * b ≡ (h * m) * b + m * low + x * (w * b % m) = near_parts b m w q x low h is e in
    let first : m * (low + 1) ≤ m * b = mul-le-mul_left m (let k : low + 1 ≤ b = omega arith in k) in
    let second : x * (w * b % m) ≤ b * (w * b % m) = mul-le-mul_right (w * b % m) (let k : x ≤ b = omega arith in k) in
    let third : b * (w * b % m) ≤ b * m = mul-le-mul_left b (let k : w * b % m ≤ m = omega (arith, l) in k) in
    let some : 0 < b = omega arith in
    record {
      at_most = le_of_mul-le-mul_right (let k : (h * m) * b ≤ (x * w) * b = omega (arith, whole) in k) some;
      close = lt_of_mul-lt-mul_right b
          (let k : (x * w) * b < (h * m + 2 * m) * b = omega (arith, whole, first, second, third, below) in k);
    }

-- z is the word `less` where that is below the fraction, and `r` elsewhere
pub record IsChosen (low less r z : ℕ) : Type 0 where
  pub lower : less < low → less ≡ z
  pub upper : low ≤ less → r ≡ z

-- a remainder by the rest that a quotient leaves
rest_below_is_remainder : (m k h z : ℕ) → k < m → k + h * m ≡ z → k ≡ z % m
rest_below_is_remainder m k h z less e = sym (ap (λ v. v % m) (sym e) ∙ add-mul-mod_self_right k h m
    ∙ mod-eq_of_lt less)

-- r is the rest k of a product, and `less` that less m, modulo b: where k is below m, `less` is not below the fraction
below_chosen : (b m k e x low less : ℕ) → m < b → low < b → k * b ≡ m * low + x * e
    → less ≡ k + (b - m) → low ≤ less
below_chosen b m k e x low less room low_fits whole is =
    let g : ℕ = b - m in
    let eg : g + m ≡ b = omega (arith, room) in
    let eb : low * (g + m) ≡ low * b = ap (λ v. low * v) eg in
    let el : less * b ≡ (k + g) * b = ap (λ v. v * b) is in
    let first : low * g ≤ b * g = mul-le-mul_right g (let l : low ≤ b = omega arith in l) in
    let some : 0 < b = omega arith in
    le_of_mul-le-mul_right (let l : low * b ≤ less * b = omega (arith, eb, el, first, whole) in l) some

above_chosen : (b m k e x low less : ℕ) → m < b → x < b → e < m → k * b ≡ m * low + x * e → less + m ≡ k → less < low
above_chosen b m k e x low less room fits left whole is =
    let ek : (less + m) * b ≡ k * b = ap (λ v. v * b) is in
    let first : x * e ≤ b * e = mul-le-mul_right e (let l : x ≤ b = omega arith in l) in
    let third : m * low ≤ b * low = mul-le-mul_right low (let l : m ≤ b = omega arith in l) in
    grind (arith, lt_of_mul-lt-mul_right)

pub chosen_word_is_remainder : (b m w q x low h p t r less : ℕ) → IsFactor b m w q → m < b → x < b → x * q ≡ low + b * h
    → low < b
    → p ≡ (x * w) % b → t ≡ (h * m) % b → r < b → (r + t) % b ≡ p → less < b → (less + m) % b ≡ r
    → IsChosen low less r ((x * w) % m)
chosen_word_is_remainder b m w q x low h p t r less is room fits e low_fits is_p is_t r_fits er less_fits el =
    let near_it = estimated_quotient_is_near b m w q x low h is fits e low_fits in
    let close = near_it.close in
    let some : 0 < b = omega arith in
    let k : ℕ = x * w - h * m in
    let s : k + h * m ≡ x * w = omega arith in
    let by_b : (k + h * m) * b ≡ (x * w) * b = ap (λ v. v * b) s in
    let parts = near_parts b m w q x low h is e in
    let whole : k * b ≡ m * low + x * (w * b % m) = omega (arith, by_b, parts) in
    let below : w < m = is.below in
    let left : w * b % m < m = mod-lt (w * b) (omega arith) in
    let t_again : t % b ≡ t = ap (λ v. v % b) is_t ∙ mod-mod (h * m) b ∙ sym is_t in
    let again : (k + t) % b ≡ p =
    grind (arith, add-mod) in
    let r_is : r ≡ k % b = sym (mod-eq_of_lt r_fits) ∙ same_without b r k t some (er ∙ sym again) in
    ⊎_elim
    (λ (small : k < m).
    let k_fits : k < b = omega arith in
    let same : r ≡ k = r_is ∙ mod-eq_of_lt k_fits in
    let c : ℕ = k + (b - m) in
    let up : c + m ≡ k + b = omega arith in
    let to : (c + m) % b ≡ k % b = ap (λ v. v % b) up ∙ add-mod_right k b in
    let less_is : less ≡ c = mod_cancel b less c m less_fits (omega arith) (el ∙ r_is ∙ sym to) in
    let high : low ≤ less = below_chosen b m k (w * b % m) x low less room low_fits whole less_is in
    record {
      lower = λ l. absurd (omega (arith, l, high));
      upper = λ _. same ∙ rest_below_is_remainder m k h (x * w) small s;
    })
    (λ (great : m ≤ k).
    let c : ℕ = k - m in
    let up : c + m ≡ k = omega arith in
    let to : (c + m) % b ≡ k % b = ap (λ v. v % b) up in
    let c_small : c < m = omega (arith, close, s, up) in
    let less_is : less ≡ c = mod_cancel b less c m less_fits (omega (arith, c_small, room)) (el ∙ r_is ∙ sym to) in
    let low_it : less < low =
    above_chosen b m k (w * b % m) x low less room fits left whole (omega (arith, less_is, up)) in
    let more : less + (h + 1) * m ≡ x * w = omega (arith, less_is, up, s) in
    record {
      lower = λ _. rest_below_is_remainder m less (h + 1) (x * w) (omega (arith, less_is, c_small)) more;
      upper = λ l. absurd (omega (arith, l, low_it));
    })
    (cases_lt k m)
