-- What a fold makes of a number.
use Rattle.std.proofs.Common.{◌≡◌, ℕ, zero, suc, ◌+◌, ◌-◌, ◌*◌, ◌/◌, ◌%◌, ◌^◌, ◌<◌}
use Rattle.std.proofs.Common.{◌≤◌, arith, ap, sym, ◌∙◌, bit_and, lit<, refl}
use Rattle.std.proofs.Math.Nat.{add-mul-mod_self_right, mod-lt, mul-le-mul_left}
use Rattle.std.proofs.Math.Nat.{mul-lt-mul_of_pos_left, pow-le-pow_right, pow-suc}
use Rattle.std.proofs.lemmas.Nat.{shr_split, pow_pos, le-div, and_mask}
use Rattle.modular_word.proofs.Congruence.{same_sum, same_product}
use Rattle.modular_folds.specs.Folds.{fold_of, IsFolding}

-- the mask of the bits below p gives the residue modulo 2^p
pub masked_number_is_residue : (p mask v : ℕ) → mask + 1 ≡ 2 ^ p → bit_and v mask ≡ v % 2 ^ p
masked_number_is_residue p mask v ones =
    ap (λ n. bit_and v n) (let e : mask ≡ 2 ^ p - 1 = omega arith in e) ∙ and_mask v p

-- m + (c - 1) is the mask of the bits below p, where m + c is 2^p
pub mask_plus_one_is_power : (m less : ℕ) {c one mask power : ℕ} → one ≡ 1 → less + one ≡ c → mask ≡ m + less
    → m + c ≡ power → mask + 1 ≡ power
mask_plus_one_is_power m less is_one is_less is_mask whole = omega (arith, is_one, is_less, is_mask, whole)

-- a fold makes no number larger
pub fold_at_most : (p c v : ℕ) → c < 2 ^ p → fold_of p c v ≤ v
fold_at_most p c v below = grind (arith, shr_split, mul-le-mul_left)

-- and one of at least 2^p smaller
pub fold_less : (p c v : ℕ) → c < 2 ^ p → 2 ^ p ≤ v → fold_of p c v < v
fold_less p c v below high = grind (arith, shr_split, le-div, pow_pos, mul-lt-mul_of_pos_left)

-- what is above 2^p is more than halved, where c is less than half of it
pub fold_halves : (p c v : ℕ) → 2 * c ≤ 2 ^ p → 2 ^ p ≤ v → 2 * fold_of p c v < v + 2 ^ p
fold_halves p c v half high = grind (arith, shr_split v p, mul-le-mul_left (v / 2 ^ p) half, mod-lt v (pow_pos p))

-- a fold keeps the residue modulo 2^p - c
pub fold_keeps : (p c m v : ℕ) → m + c ≡ 2 ^ p → fold_of p c v % m ≡ v % m
fold_keeps p c m v is =
    let whole : fold_of p c v + v / 2 ^ p * m ≡ v = omega (arith, ap (λ n. v / 2 ^ p * n) is) in
    sym (add-mul-mod_self_right (fold_of p c v) (v / 2 ^ p) m) ∙ ap (λ n. n % m) whole

-- so do two
pub two_folds_keep : (p c m v : ℕ) {first second : ℕ} → m + c ≡ 2 ^ p
    → first ≡ fold_of p c v → second ≡ fold_of p c first
    → second % m ≡ v % m
two_folds_keep p c m v {first} {second} is one two = grind (arith, fold_keeps)

-- a word of w bits that is 2^p at least has more than p bits
pub bit_inside : (w p v : ℕ) → 2 ^ p ≤ v → v < 2 ^ w → p < w
bit_inside w p v high fits = grind (arith, pow-le-pow_right, lit<)

-- a fold by a factor that is congruent to 2^e keeps the residue
pub far_fold_keeps : (e factor m v : ℕ) → factor % m ≡ 2 ^ e % m → (v / 2 ^ e * factor + v % 2 ^ e) % m ≡ v % m
far_fold_keeps e factor m v is =
    same_sum _ _ _ _ _ (same_product m (v / 2 ^ e) (v / 2 ^ e) factor (2 ^ e) refl is) refl
    ∙ ap (λ n. n % m) (shr_split v e)

-- the next power of two
pub next_power : (e : ℕ) → 2 ^ (e + 1) ≡ 2 ^ e + 2 ^ e
next_power e = ap (λ n. 2 ^ n) (let s : e + 1 ≡ suc e = omega arith in s) ∙ pow-suc 2 e ∙ omega arith

-- twice a number that is congruent to 2^e is congruent to the next power
pub doubled_keeps : (e factor m : ℕ) → factor % m ≡ 2 ^ e % m → (factor + factor) % m ≡ 2 ^ (e + 1) % m
doubled_keeps e factor m is = grind (arith, same_sum, next_power)

-- a number below m is below 2^(p + by)
pub residue_below_raised_power : (p by m c x : ℕ) → m + c ≡ 2 ^ p → x < m → x < 2 ^ (p + by)
residue_below_raised_power p by m c x whole less = grind (arith, pow-le-pow_right, lit<)

-- 2^p is among the numbers up to 2^w
pub power_fits : {w p c m : ℕ} → IsFolding w p c m → 2 ^ p ≤ 2 ^ w
power_fits is = pow-le-pow_right {n = 2} (lit< tt) is.fits

-- so p is not 0
pub some_bits : {w p c m : ℕ} → IsFolding w p c m → 0 < p
some_bits {w} {p = zero} {c} {m} is = absurd (omega (arith, is.some, is.whole, is.half))
some_bits {w} {p = suc p} {c} {m} is = omega arith

-- nor 1
pub two_bits : {w p c m : ℕ} → IsFolding w p c m → 2 ≤ p
two_bits {w} {p = zero} {c} {m} is = absurd (omega (arith, is.some, is.whole, is.half))
two_bits {w} {p = suc zero} {c} {m} is = absurd (omega (arith, is.some, is.whole, is.half))
two_bits {w} {p = suc (suc p)} {c} {m} is = omega arith
