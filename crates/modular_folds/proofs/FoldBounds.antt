-- How far folds in a row take a number that is no more than a product of two numbers below 2^p.
use Rattle.std.proofs.Common.{◌≡◌, ℕ, zero, suc, ◌+◌, ◌-◌, ◌*◌, ◌/◌, ◌%◌, ◌^◌, ◌<◌, ◌≤◌, ◌∙◌, ap, sym, arith, lit<}
use Rattle.std.proofs.Math.Nat.{mul-le-mul_left, mul-le-mul_right, div-lt_iff_lt-mul, lt-div-mul-add, mod-lt}
use Rattle.std.proofs.Math.Nat.{pow-le-pow_right}
use Rattle.std.proofs.Math.Nat.{pow-suc, mod-eq_of_lt, mod-eq-sub-mod}
use Rattle.std.proofs.lemmas.Nat.{shr_split, pow_pos, pow-add, mul-le, le-div}
use Rattle.modular_folds.specs.Folds.{fold_of}
use Rattle.modular_folds.proofs.FoldSteps.{fold_at_most}

-- so that the product and the sum of a fold fit where the number fits
pub fold_fits : (b p c v h : ℕ) → c < 2 ^ p → v < b → h ≡ v / 2 ^ p → h * c < b
fold_fits b p c v h less fits high = omega (arith, fold_at_most p c v less, ap (λ u. u * c) high)

pub fold_sum_fits : (b p c v h s l : ℕ) → c < 2 ^ p → v < b → h ≡ v / 2 ^ p → s ≡ h * c → l ≡ v % 2 ^ p → s + l < b
fold_sum_fits b p c v h s l less fits high product low = grind (arith, fold_at_most)

-- a number that is less than 2 * b by c has a quotient of 1 at most
last_of : (b c q r s : ℕ) → q * b + r ≡ s → r < b → s + c < 2 * b → q * c + r < b
last_of b c zero r s is low near = omega arith
last_of b c (suc zero) r s is low near = omega arith
last_of b c (suc (suc k)) r s is low near = absurd (omega arith)

-- so that one fold takes it below 2^p
pub last_fold : (p c s : ℕ) → s + c < 2 * 2 ^ p → fold_of p c s < 2 ^ p
last_fold p c s near = grind (arith, last_of, shr_split, mod-lt, pow_pos)

-- the first fold leaves a part above the bit p of c at most
pub first_fold : (p c v : ℕ) → v / 2 ^ p < 2 ^ p → fold_of p c v / 2 ^ p ≤ c
first_fold p c v product = grind (arith, mod-lt, pow_pos, mul-le-mul_right, div-lt_iff_lt-mul)

-- and a fold of a number with a part of h at most less than 2^p and h times c
pub next_fold : (p c h s : ℕ) → s / 2 ^ p ≤ h → fold_of p c s < 2 ^ p + h * c
next_fold p c h s high = grind (arith, mod-lt, pow_pos, mul-le-mul_right)

-- by 1, the first fold is less than twice 2^p by 1 at least, so that two folds do
pub two_low : (p v : ℕ) → v / 2 ^ p < 2 ^ p → fold_of p 1 (fold_of p 1 v) < 2 ^ p
two_low p v product = last_fold p 1 (fold_of p 1 v) (omega (arith, product, mod-lt v (pow_pos p)))

-- by a small number, three do
pub three_low : (p c v : ℕ) → c * c + c ≤ 2 ^ p → v / 2 ^ p < 2 ^ p → fold_of p c (fold_of p c (fold_of p c v)) < 2 ^ p
three_low p c v small product =
    let near = next_fold p c c (fold_of p c v) (first_fold p c v product) in
    last_fold p c (fold_of p c (fold_of p c v)) (omega (arith, near))

-- a factor of half as many bits as p has a small square
pub small_square : (p c : ℕ) → c < 2 ^ (p / 2) → c * c + 2 * c < 2 ^ p
small_square p c less =
    let square : suc c * suc c ≤ 2 ^ (p / 2) * 2 ^ (p / 2) =
    mul-le (suc c) (suc c) (2 ^ (p / 2)) (2 ^ (p / 2)) less less in
    let halves : p / 2 + p / 2 ≤ p = omega arith in
    omega (arith, square, pow-add 2 (p / 2) (p / 2), pow-le-pow_right {n = 2} (lit< tt) halves)

-- ---- folds in a straight line
-- a number that is at most the last bound leaves the next one at most after a fold
pub fold_bound : (p c v mask most : ℕ) → mask + 1 ≡ 2 ^ p → v / 2 ^ p * c + mask ≤ most → fold_of p c v ≤ most
fold_bound p c v mask most ones bound = omega (arith, mod-lt v (pow_pos p))

pub next_bound : (p c v mask most : ℕ) → v ≤ most → v / 2 ^ p * c + mask ≤ most / 2 ^ p * c + mask
next_bound p c v mask most bound = grind (arith, shr_split, le-div, pow_pos, mul-le-mul_right)

-- so is a fold of a number up to a bound
pub up_to : (p c v mask most : ℕ) → mask + 1 ≡ 2 ^ p → v ≤ most → fold_of p c v ≤ most / 2 ^ p * c + mask
up_to p c v mask most ones bound =
    fold_bound p c v mask (most / 2 ^ p * c + mask) ones (next_bound p c v mask most bound)

-- after two folds
pub two_up_to : (p c v mask most : ℕ) {first second most_of_one most_of_two : ℕ} → mask + 1 ≡ 2 ^ p → v ≤ most
    → first ≡ fold_of p c v → second ≡ fold_of p c first
    → most_of_one ≡ most / 2 ^ p * c + mask → most_of_two ≡ most_of_one / 2 ^ p * c + mask
    → second ≤ most_of_two
two_up_to p c v mask most {first} {second} {most_of_one} {most_of_two} ones bound one two is_one is_two =
    let once : first ≤ most_of_one = rw (one, is_one) (up_to p c v mask most ones bound) in
    rw (two, is_two) (up_to p c first mask most_of_one ones once)

-- by at most a fourth of b, the bound falls while it is at least twice b - c
folded_bound_below : (b c m q r s : ℕ) → q * b + r ≡ s → r < b → m + c ≡ b → 4 * c ≤ b → 2 * m ≤ s → q * c + b ≤ s
folded_bound_below b c m zero r s is low whole small high = absurd (omega arith)
folded_bound_below b c m (suc zero) r s is low whole small high = omega arith
folded_bound_below b c m (suc (suc k)) r s is low whole small high =
    omega (arith, mul-le-mul_left k (let e : c ≤ b = omega arith in e))

pub bound_falls : (p c m mask most : ℕ) → mask + 1 ≡ 2 ^ p → m + c ≡ 2 ^ p → 4 * c ≤ 2 ^ p → 2 * m ≤ most
    → most / 2 ^ p * c + mask < most
bound_falls p c m mask most ones whole small high =
    let less =
    folded_bound_below _ _ _ _ _ _ (shr_split most p) (mod-lt most (pow_pos p)) whole small high in
    omega (arith, less)

-- a factor of two bits less than p is at most a fourth of 2^p
pub fourfold_factor_within_power : (p c : ℕ) → 2 ≤ p → c < 2 ^ (p - 2) → 4 * c ≤ 2 ^ p
fourfold_factor_within_power p c two less = grind (arith, pow-add)

-- so is one of fewer bits still
pub fourth_of : (p k c : ℕ) → 2 ≤ p → k ≤ p - 2 → c < 2 ^ k → 4 * c ≤ 2 ^ p
fourth_of p k c two fewer less =
    let most : 2 ^ k ≤ 2 ^ (p - 2) = pow-le-pow_right {n = 2} (lit< tt) fewer in
    fourfold_factor_within_power p c two (omega (arith, most, less))

-- the first bound is below 2^(2p)
pub first_bound : (p c mask w : ℕ) → mask + 1 ≡ 2 ^ p → c < 2 ^ p → 2 * p ≤ w → mask * c + mask < 2 ^ w
first_bound p c mask w ones less room =
    let wide = pow-le-pow_right {n = 2} (lit< tt) (let e : p + p ≤ w = omega arith in e) in
    omega (arith, pow-add 2 p p, wide, mul-le-mul_left mask less, ap (λ n. n * 2 ^ p) ones, pow_pos p)

-- the residue of a number below 2m
pub once_below : (m s : ℕ) → s < m → s ≡ s % m
once_below m s less = sym (mod-eq_of_lt less)

pub once_above : (m s rest : ℕ) → m ≤ s → s < 2 * m → rest + m ≡ s → (rest ≡ s % m) × (rest < m)
once_above m s rest most less is = grind (arith, mod-eq-sub-mod, mod-eq_of_lt)

-- a number that has no part above the bit p is below 2^p
pub low_only : (p v : ℕ) → v / 2 ^ p ≡ 0 → v < 2 ^ p
low_only p v none = omega (arith, lt-div-mul-add {a = v} (pow_pos p), ap (λ h. h * 2 ^ p) none)

-- twice 2^p is among the numbers up to 2^w where p is below w
pub doubled_fits : (w p : ℕ) → p < w → 2 * 2 ^ p ≤ 2 ^ w
doubled_fits w p inside = omega (arith, pow-suc 2 p, pow-le-pow_right {n = 2} (lit< tt) inside)

-- a word's part above the bit p times c is less than half of 2^p, where the bits of both are fewer than p
pub fold_of_word : (w p c v : ℕ) → p < w → w - p < p → c < 2 ^ (p - 1 - (w - p)) → v < 2 ^ w
    → fold_of p c v + 2 * c < 2 * 2 ^ p
fold_of_word w p c v inside near small fits =
    let a = w - p in
    let e = p - 1 - a in
    let word : 2 ^ w ≡ 2 ^ a * 2 ^ p =
    ap (λ n. 2 ^ n) (let s : w ≡ a + p = omega arith in s) ∙ pow-add 2 a p in
    let high : v / 2 ^ p < 2 ^ a = (div-lt_iff_lt-mul {x = v} {y = 2 ^ a} (pow_pos p)).1 (omega (arith, word)) in
    let most : v / 2 ^ p * c ≤ 2 ^ a * 2 ^ e = mul-le (v / 2 ^ p) c (2 ^ a) (2 ^ e) (omega arith) (omega arith) in
    let two : 2 ^ 1 ≤ 2 ^ a = pow-le-pow_right {n = 2} (lit< tt) (let s : 1 ≤ a = omega arith in s) in
    let double : 2 * 2 ^ e ≤ 2 ^ a * 2 ^ e = mul-le-mul_right (2 ^ e) two in
    let half : 2 ^ (p - 1) ≡ 2 ^ a * 2 ^ e =
    ap (λ n. 2 ^ n) (let s : p - 1 ≡ a + e = omega arith in s) ∙ pow-add 2 a e in
    let power : 2 ^ p ≡ 2 * 2 ^ (p - 1) =
    ap (λ n. 2 ^ n) (let s : p ≡ suc (p - 1) = omega arith in s) ∙ pow-suc 2 (p - 1) ∙ omega arith in
    omega (arith, most, double, half, power, mod-lt v (pow_pos p))
