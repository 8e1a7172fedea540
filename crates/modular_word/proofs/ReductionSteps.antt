-- The arithmetic of a reduction that divides by the base.
use Rattle.std.proofs.Common.{◌≡◌, ℕ, ◌+◌, ◌-◌, ◌*◌, ◌/◌, ◌%◌, ◌<◌, ◌≤◌, ◌⊎◌, inr, sym, ap, ◌∙◌, arith, ⊎_elim}
use Rattle.std.proofs.Math.Nat.{add-mod, mod-eq_of_lt, mod-lt, mul-le-mul_left, mul-le-mul_right, add-mul-mod_self_left}
use Rattle.std.proofs.Math.Nat.{lt_of_mul-lt-mul_right}
use Rattle.std.proofs.lemmas.Nat.{mul-mod_first, mul-mod_second}
use Rattle.std.proofs.lemmas.Bool.{cases_lt}
use Rattle.modular_word.proofs.Congruence.{same_rest, factor_cancel, same_without_unit, next_is_multiple}
use Rattle.modular_word.specs.Reduction.{IsReduction, IsNegatedInverse}

-- a number t with the low word t0, and the multiple of m by t0 times the negated inverse i, add up to a multiple of B
pub sum_is_cleared : (B m i t0 t1 x : ℕ) → 0 < B → (m * i) % B ≡ B - 1 → x ≡ (t0 * i) % B
    → (t0 + B * t1 + x * m) % B ≡ 0
sum_is_cleared B m i t0 t1 x hB e ex =
    let next : (m * i + 1) % B ≡ 0 = next_is_multiple _ _ hB e ∙ mod-eq_of_lt hB in
    let multiple : (x * m) % B ≡ (t0 * i * m) % B = ap (λ v. (v * m) % B) ex ∙ mul-mod_first _ _ _ in
    ap (λ v. v % B) (let h : t0 + B * t1 + x * m ≡ t0 + x * m + B * t1 = omega arith in h)
    ∙ add-mul-mod_self_left (t0 + x * m) _ _
    ∙ add-mod _ _ _ ∙ ap (λ v. (t0 % B + v) % B) multiple ∙ sym (add-mod _ (t0 * i * m) _)
    ∙ ap (λ v. v % B) (let h : t0 + t0 * i * m ≡ t0 * (m * i + 1) = omega arith in h)
    ∙ sym (mul-mod_second _ (m * i + 1) _) ∙ ap (λ v. (t0 * v) % B) next
    ∙ ap (λ v. v % B) (let h : t0 * 0 ≡ 0 = omega arith in h) ∙ mod-eq_of_lt hB

-- a multiple of m by a word is below m times the base
pub multiple_below : (B m x t : ℕ) → t < B * m → x < B → x * m < B * m
multiple_below B m x t below fits =
    ⊎_elim (λ (h : 0 < m). grind (arith, mul-le-mul_right))
    (λ (h : m ≤ 0). let a : B * m ≤ B * 0 = mul-le-mul_left _ h in absurd (omega (arith, below))) (cases_lt _ _)

-- a sum of two numbers below m times the base, by the base, less m where it is at least m, is the remainder
pub high_sum_is : (m q r : ℕ) → q < m + m → ((q < m) × (r ≡ q)) ⊎ (r + m ≡ q) → r ≡ q % m
high_sum_is m q r below is = ⊎_elim (λ (h : (q < m) × (r ≡ q)). h.1 ∙ sym (mod-eq_of_lt h.0)) (λ (h : r + m ≡ q).
    grind (arith, add-mul-mod_self_left, mod-eq_of_lt)) is

-- a number below the base and a multiple of it that add up to a multiple of the base
multiple_has_zero_low_part : (B x s q : ℕ) → x < B → x + B * s ≡ B * q → (x ≡ 0) × (s ≡ q)
multiple_has_zero_low_part B x s q below e =
    let some : 0 < B = omega (arith, below) in
    let none : x ≡ 0 = same_rest _ _ _ _ _ below some (let h : x + B * s ≡ 0 + B * q = omega (arith, e) in h) in
    (none, factor_cancel _ _ _ some (let h : B * s ≡ B * q = omega (arith, none, e) in h))

-- a sum whose low word is 0, by the base: the sum of the high words, and 1 where the low words aren't 0
pub high_sum_of : (B t u t0 h l k carried : ℕ) → (t + u) % B ≡ 0 → t ≡ t0 + B * h → t0 < B → u ≡ l + B * k → l < B
    → ((l ≡ 0) × (carried ≡ k)) ⊎ ((0 < l) × (carried ≡ k + 1)) → (t + u) / B ≡ h + carried
high_sum_of B t u t0 h l k carried cleared et t0_fits eu l_fits is =
    let q = (t + u) / B in
    ⊎_elim (λ (none : (l ≡ 0) × (carried ≡ k)).
    let e : t0 + B * (h + k) ≡ B * q = let f = none.0 in omega arith in
    let r = (multiple_has_zero_low_part B t0 (h + k) q t0_fits e).1 in
    let f = none.1 in omega arith) (λ (some : (0 < l) × (carried ≡ k + 1)).
    ⊎_elim (λ (less : t0 + l < B).
    let e : t0 + l + B * (h + k) ≡ B * q = omega arith in
    let z = (multiple_has_zero_low_part B (t0 + l) (h + k) q less e).0 in
    absurd (let f = some.0 in omega arith)) (λ (more : B ≤ t0 + l).
    let e : t0 + l - B + B * (h + k + 1) ≡ B * q = omega arith in
    let r = (multiple_has_zero_low_part B (t0 + l - B) (h + k + 1) q (omega arith) e).1 in
    let f = some.1 in omega arith) (cases_lt (t0 + l) B)) is

-- the high word of a number below m times the base
pub high_word_below_factor : (B m x x0 x1 : ℕ) → x ≡ x0 + B * x1 → x < B * m → x1 < m
high_word_below_factor B m x x0 x1 parts below = lt_of_mul-lt-mul_right B (let h : x1 * B < m * B = omega arith in h)

-- a sum of two numbers below m times the base, by the base
pub high_sum_below : (B m t u : ℕ) → (t + u) % B ≡ 0 → t < B * m → u < B * m → (t + u) / B < m + m
high_sum_below B m t u cleared first second =
    lt_of_mul-lt-mul_right B (let h : (t + u) / B * B < (m + m) * B = omega arith in h)

-- a number that is the base more than a word
mod_of_one_base_more : (B q s : ℕ) → q < B → s ≡ q + B → s % B ≡ q
mod_of_one_base_more B q s fits e = grind (arith, add-mul-mod_self_left, mod-eq_of_lt)

-- a wrapping difference of a word and a greater one
pub borrow_adds_base : (B a b d : ℕ) → a < b → b < B → d < B → (d + b) % B ≡ a → d + b ≡ a + B
borrow_adds_base B a b d less fits d_fits e = grind (arith, mod-eq_of_lt, mod_of_one_base_more)

-- the base less m, where some number is below m times the base
pub complement_of : (B m t c z : ℕ) → t < B * m → m < B → c < B → z ≡ 0 → (c + m) % B ≡ z → c + m ≡ B
complement_of B m t c z below fits c_fits none e = grind (arith, borrow_adds_base, mul-le-mul_left)

-- q modulo m, where q less m is known modulo the base: q is at least m ..
pub above_modulus : (m q r : ℕ) → q < m + m → r + m ≡ q → r ≡ q % m
above_modulus m q r twice e = high_sum_is m q r twice (inr e)

-- .. or below m
pub restored_rest_is_residue : (B m q rest r : ℕ) → m < B → q < m + m → rest < B → rest + m ≡ q + B → r ≡ (rest + m) % B
    → r ≡ q % m
restored_rest_is_residue B m q rest r fits twice rest_fits e is = grind (arith, high_sum_is, mod_of_one_base_more)

-- a sum and the base less m, each times the base, in double words: q less m is the high word, with a carry ..
pub double_carried : (B m q c t u more s s0 r : ℕ) → t + u ≡ B * q → c + m ≡ B → more ≡ t + B * c
    → more + u ≡ s + B * B → s ≡ s0 + B * r → s0 < B → r + m ≡ q
double_carried B m q c t u more s s0 r whole complement em es parts s0_fits =
    let e : s0 + B * (r + B) ≡ B * (q + c) = omega (arith, whole, em, es, parts) in
    let h = (multiple_has_zero_low_part _ _ _ _ s0_fits e).1 in
    omega (arith, h, complement)

-- .. and the base more without
pub double_exact : (B m q c t u more s s0 r : ℕ) → t + u ≡ B * q → c + m ≡ B → more ≡ t + B * c
    → more + u ≡ s → s ≡ s0 + B * r → s0 < B → r + m ≡ q + B
double_exact B m q c t u more s s0 r whole complement em es parts s0_fits =
    let e : s0 + B * r ≡ B * (q + c) = omega (arith, whole, em, es, parts) in
    let h = (multiple_has_zero_low_part _ _ _ _ s0_fits e).1 in
    omega (arith, h, complement)

-- t and a multiple of m, by the base, modulo m: the reduction of t
pub high_sum_is_reduction : (B m t x r : ℕ) → t < B * m → (t + x * m) % B ≡ 0 → r ≡ ((t + x * m) / B) % m
    → IsReduction B m t r
high_sum_is_reduction B m t x r below cleared is =
    let parts : (t + x * m) / B * B ≡ t + m * x = omega (arith, cleared) in
    grind (arith, mod-lt, mul-mod_first, add-mul-mod_self_left)

-- by the negated inverse the base has an inverse modulo m
pub base_inverse : (B m i : ℕ) → 0 < B → IsNegatedInverse B m i → (B * ((m * i + 1) / B)) % m ≡ 1 % m
base_inverse B m i some inverse =
    let z : (m * i + 1) % B ≡ 0 = next_is_multiple _ _ some inverse.product ∙ mod-eq_of_lt some in
    let g : B * ((m * i + 1) / B) ≡ 1 + m * i = omega arith in
    ap (λ v. v % m) g ∙ add-mul-mod_self_left _ _ _

-- so what reduces a number congruent to x times the base is the residue of x
pub reduced_is : (B m i x : ℕ) {t u : ℕ} → 0 < B → IsNegatedInverse B m i → t % m ≡ (x * B) % m
    → IsReduction B m t u → u ≡ x % m
reduced_is B m i x {t} {u} some inverse e is =
    sym (mod-eq_of_lt is.below)
    ∙ same_without_unit _ _ _ _ ((m * i + 1) / B) (base_inverse _ _ _ some inverse) (is.congruent ∙ e)
