-- The number of products of a power by binary steps.
use Rattle.std.proofs.Common.{◌≡◌, ◌≢◌, ℕ, zero, suc, ◌+◌, ◌*◌, ◌/◌, ◌%◌, ◌^◌, ◌<◌, ◌≤◌}
use Rattle.std.proofs.Common.{Bool, true, false, cond, nat_le, ap, refl, arith, count_ones}
use Rattle.std.proofs.lemmas.Bool.Decides.{nat_tests}
use Rattle.std.proofs.lemmas.Nat.{ones-le}
use Rattle.std.proofs.Math.Nat.{pow-suc, lt_of_not-le}
use Rattle.std.proofs.Math.Pow.{pow_mono}
use Rattle.std.specs.Int.Count.{ones_step}
use Rattle.modular_reduced.specs.Powers.{digits_within, digits, products}

-- what holds of both is true of the one that a test picks
choice_keeps_property : (P : ℕ → Type 0) (b : Bool) (x y : ℕ) → (b ≡ true → P x) → (b ≡ false → P y) → P (cond b x y)
choice_keeps_property P true x y h k = h (λ i. true)
choice_keeps_property P false x y h k = k (λ i. false)

test_true : (a b : ℕ) → nat_le a b ≡ true → a ≤ b
test_true a b e = grind (arith, nat_tests)

test_false : (a b : ℕ) → nat_le a b ≡ false → b < a
test_false a b e = grind (arith, nat_tests)

-- a number is below the power of two with it as exponent
pub self_below : (e : ℕ) → e < 2 ^ e
self_below zero = omega arith
self_below (suc e) = let h = self_below e in let s = pow-suc 2 e in omega arith

within_above : (k e : ℕ) → e < 2 ^ k → e < 2 ^ digits_within k e
unfolding digits_within
within_above zero e h = h
within_above (suc k) e h = choice_keeps_property (λ d. e < 2 ^ d) (nat_le (2 ^ k) e) (suc k) (digits_within k e)
    (λ t. h)
    (λ f. within_above k e (test_false (2 ^ k) e f))

exponent_above : (k j : ℕ) → 2 ^ k < 2 ^ j → k < j
exponent_above k j h = lt_of_not-le (λ l. let m : 2 ^ j ≤ 2 ^ k = pow_mono l in omega arith)

within_least : (k e j : ℕ) → e < 2 ^ j → digits_within k e ≤ j
unfolding digits_within
within_least zero e j h = omega arith
within_least (suc k) e j h = choice_keeps_property (λ d. d ≤ j) (nat_le (2 ^ k) e) (suc k) (digits_within k e)
    (λ t. let l : 2 ^ k ≤ e = test_true (2 ^ k) e t in let b = exponent_above k j (omega arith) in omega arith)
    (λ f. within_least k e j h)

-- e is below 2 to the number of its digits
pub digits_above : (e : ℕ) → e < 2 ^ digits e
unfolding digits
digits_above e = within_above e e (self_below e)

-- which is the least such
pub digits_least : (e j : ℕ) → e < 2 ^ j → digits e ≤ j
unfolding digits
digits_least e j h = within_least e e j h

-- half of a number has a digit less
pub below_half : (e j : ℕ) → 0 < e → e < 2 ^ j → digits (e / 2) + 1 ≤ j
below_half e zero h k = omega arith
below_half e (suc j) h k = grind (arith, pow-suc, digits_least)

pub digits_step : (e : ℕ) → 0 < e → digits e ≡ 1 + digits (e / 2)
digits_step e h =
    let d = digits (e / 2) in
    let high : e / 2 < 2 ^ d = digits_above (e / 2) in
    let at_most = digits_least e (suc d) (let b : e < 2 ^ suc d = omega arith in b) in
    let at_least = below_half e (digits e) h (digits_above e) in
    omega arith

-- there are no more one digits than digits
pub ones_at_most : (e : ℕ) → count_ones e ≤ digits e
ones_at_most e = ones-le (digits e) e (digits_above e)

-- the digits and the one digits of what is left of an exponent
abbrev pub steps : ℕ → ℕ
steps e = digits e + count_ones e

pub steps_of_zero : (e : ℕ) → e ≡ 0 → steps e ≡ 0
steps_of_zero e h = let l = digits_least e 0 (let b : e < 2 ^ 0 = omega arith in b) in
    let o = ones_at_most e in omega arith

-- a digit is worked off by a square, and a one digit besides by a product
pub steps_step : (e half : ℕ) → half ≡ e / 2 → e ≢ 0 → steps e ≡ 1 + e % 2 + steps half
steps_step e half same h =
    let d = digits_step e (omega arith) in
    let o = ones_step e in
    omega (arith, ap steps same)

-- so many are left to do at least
pub steps_left : (e : ℕ) → e ≢ 0 → 1 + e % 2 ≤ steps e
steps_left e h = let s = steps_step e (e / 2) refl h in omega arith

-- a word's exponent takes at most two products for each of its bits
pub steps_fit : (e width : ℕ) → e < 2 ^ width → width ≤ 128 → steps e ≤ 256
steps_fit e width h k = let l = digits_least e width h in let o = ones_at_most e in omega arith

pub first_power_needs_no_products : (e : ℕ) → e ≡ 1 → products e ≡ 0
unfolding products
first_power_needs_no_products e h = grind (arith, nat_tests)

pub products_of_two : (e : ℕ) → e ≡ 2 → products e ≡ 1
unfolding products
products_of_two e h = grind (arith, nat_tests)

pub products_else : (e : ℕ) → e ≢ 1 → e ≢ 2 → products e ≡ steps e
unfolding products
products_else e h k = grind (arith, nat_tests)

-- at most twice the digits
pub products_at_most : (e : ℕ) → products e ≤ 2 * digits e
unfolding products
products_at_most e = grind (arith, ones_at_most, digits_step, nat_tests)
