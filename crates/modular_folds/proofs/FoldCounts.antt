-- How many folds a number takes, and that these are few.
use Rattle.std.proofs.Common.{◌≡◌, ℕ, zero, suc, ◌+◌, ◌-◌, ◌*◌, ◌/◌, ◌^◌, ◌<◌, ◌≤◌, sym, ◌∙◌, ap, arith, ⊎_elim}
use Rattle.std.proofs.Math.Nat.{div-lt_iff_lt-mul, mul-le-mul_right, pow-suc}
use Rattle.std.proofs.lemmas.Bool.Decides.{nat_tests}
use Rattle.std.proofs.lemmas.Bool.{cases_lt}
use Rattle.std.proofs.lemmas.Nat.{pow_pos, pow-add, shr_split, div-mul-add, mod-mul-add}
use Rattle.modular_folds.specs.Folds.{fold_of, folds_within, folds, IsFewFolds}
use Rattle.modular_folds.proofs.FoldSteps.{fold_less, fold_halves}
use Rattle.modular_folds.proofs.FoldBounds.{two_low, three_low, next_fold, last_fold, small_square}

no_folds_below_power : (k p c v : ℕ) → v < 2 ^ p → folds_within k p c v ≡ 0
unfolding folds_within
no_folds_below_power zero p c v l = omega arith
no_folds_below_power (suc k) p c v l = grind (arith, nat_tests)

one_more_fold_within : (k p c v : ℕ) → 2 ^ p ≤ v → folds_within (suc k) p c v ≡ suc (folds_within k p c (fold_of p c v))
unfolding folds_within
one_more_fold_within k p c v h = grind (arith, nat_tests)

-- a larger bound changes nothing
folds_within_independent_of_bound : (k l p c v : ℕ) → c < 2 ^ p → v ≤ k → v ≤ l
    → folds_within k p c v ≡ folds_within l p c v
folds_within_independent_of_bound zero l p c v b h i = grind (arith, pow_pos, no_folds_below_power)
folds_within_independent_of_bound (suc k) zero p c v b h i = grind (arith, pow_pos, no_folds_below_power)
folds_within_independent_of_bound (suc k) (suc l) p c v b h i =
    ⊎_elim (λ (low : v < 2 ^ p). no_folds_below_power (suc k) p _ v low ∙ sym (no_folds_below_power _ _ _ v low))
    (λ (high : 2 ^ p ≤ v).
    let less = fold_less _ _ _ b high in
    one_more_fold_within k p _ v high
    ∙ ap suc (folds_within_independent_of_bound _ _ _ _ (fold_of p c v) b (omega (arith, less))
    (omega (arith, less))) ∙ sym (one_more_fold_within _ _ _ v high)) (cases_lt v (2 ^ p))

-- ---- the equations of the count
pub folds-none : (p c v : ℕ) → v < 2 ^ p → folds p c v ≡ 0
unfolding folds
folds-none p c v l = no_folds_below_power v p c v l

pub folds-next : (p c v : ℕ) → c < 2 ^ p → 2 ^ p ≤ v → folds p c v ≡ 1 + folds p c (fold_of p c v)
unfolding folds
folds-next p c v b h =
    let next : folds_within (suc v) p c v ≡ 1 + folds_within v p c (fold_of p c v) =
    one_more_fold_within v p c v h ∙ omega arith in
    grind (arith, folds_within_independent_of_bound)

-- ---- the bounds
-- one fold more
folds-at_most_suc : (p c v n : ℕ) → c < 2 ^ p → folds p c (fold_of p c v) ≤ n → folds p c v ≤ suc n
folds-at_most_suc p c v n b few = grind (arith, folds-none, folds-next)

-- by 1, two folds do for a product of two numbers below 2^p
few_by_one : (p v : ℕ) → 1 < 2 ^ p → v / 2 ^ p < 2 ^ p → folds p 1 v ≤ 2
few_by_one p v b product =
    let none = folds-none p 1 (fold_of p 1 (fold_of p 1 v)) (two_low p v product) in
    folds-at_most_suc p 1 v 1 b (folds-at_most_suc p 1 (fold_of p 1 v) 0 b (omega (arith, none)))

-- by a small number, three
few_by_small : (p c v : ℕ) → c < 2 ^ p → c * c + c ≤ 2 ^ p → v / 2 ^ p < 2 ^ p → folds p c v ≤ 3
few_by_small p c v b small product =
    let none = folds-none _ c _ (three_low _ _ _ small product) in
    folds-at_most_suc _ _ _ 2 b (folds-at_most_suc _ _ _ 1 b (folds-at_most_suc _ _ _ 0 b (omega (arith, none))))

-- two below twice 2^p, and one more for each doubling
few_from : (p c j v : ℕ) → 2 * c < 2 ^ p → v < 2 ^ p + 2 ^ j * 2 ^ p → folds p c v ≤ j + 2
few_from p c zero v b l =
    let high : v / 2 ^ p < 2 = (div-lt_iff_lt-mul {x = v} {y = 2} (pow_pos p)).1 (omega arith) in
    let low = last_fold p c (fold_of p c v) (omega (arith, next_fold p c 1 v (omega arith))) in
    let none = folds-none p c (fold_of p c (fold_of p c v)) low in
    folds-at_most_suc p c v 1 (omega arith) (folds-at_most_suc p c (fold_of p c v) 0 (omega arith)
    (omega (arith, none)))
few_from p c (suc j) v b l =
    ⊎_elim (λ (low : v < 2 ^ p). omega (arith, folds-none _ c _ low)) (λ (high : 2 ^ p ≤ v).
    let double : 2 ^ suc j * 2 ^ p ≡ 2 * (2 ^ j * 2 ^ p) = ap (λ a. a * 2 ^ p) (pow-suc 2 j) ∙ omega arith in
    let half = fold_halves _ c _ (omega arith) high in
    let rest = few_from _ _ j (fold_of p c v) b (omega (arith, half, double)) in
    let more = folds-at_most_suc _ _ _ _ (omega arith) rest in
    omega (arith, more)) (cases_lt v (2 ^ p))

pub few_in : (p c v w : ℕ) → 2 * c < 2 ^ p → p ≤ w → v < 2 ^ w → folds p c v ≤ w - p + 2
few_in p c v w b fits l = grind (arith, pow-add, few_from)

-- a number of 2p bits has a part above the bit p of p bits
high_part : (p v : ℕ) → v < 2 ^ (2 * p) → v / 2 ^ p < 2 ^ p
high_part p v l =
    let square : 2 ^ (2 * p) ≡ 2 ^ p * 2 ^ p =
    ap (λ n. 2 ^ n) (let e : 2 * p ≡ p + p = omega arith in e) ∙ pow-add 2 p p in
    (div-lt_iff_lt-mul {x = v} {y = 2 ^ p} (pow_pos p)).1 (omega (arith, square))

pub few_folds : (p c v n : ℕ) → 2 * c < 2 ^ p → n ≡ folds p c v → IsFewFolds p c v n
few_folds p c v n b is = grind (arith, few_in, few_by_one, high_part, few_by_small, small_square)

-- ---- the count of a fold
-- a number that has no part above the bit p stays as it is
pub count_none : (p c v rest : ℕ) → rest ≡ fold_of p c v → v / 2 ^ p ≡ 0 → 0 + folds p c rest ≡ folds p c v
count_none p c v rest is none = grind (arith, shr_split)

-- any other takes one fold more than what the fold leaves
pub count_one : (p c v rest : ℕ) → c < 2 ^ p → rest ≡ fold_of p c v → 0 < v / 2 ^ p → 1 + folds p c rest ≡ folds p c v
count_one p c v rest b is some =
    let split = shr_split v p in
    let most : 1 * 2 ^ p ≤ v / 2 ^ p * 2 ^ p = mul-le-mul_right (2 ^ p) (omega arith) in
    omega (arith, ap (folds p c) is, folds-next p c v b (omega (arith, split, most)))

-- the law of a fold, of a number given by its parts
pub folds-parts : (p c hi lo : ℕ) → c < 2 ^ p → lo < 2 ^ p → 0 < hi
    → folds p c (hi * 2 ^ p + lo) ≡ 1 + folds p c (hi * c + lo)
folds-parts p c hi lo b low some = grind (arith, mul-le-mul_right, folds-next, div-mul-add, mod-mul-add)
