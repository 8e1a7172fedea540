-- Reversed bits: within range, and back again.
use Rattle.std.proofs.Common.{◌≡◌, ◌≢◌, ℕ, suc, zero, ◌+◌, ◌-◌, ◌*◌, ◌%◌, ◌/◌, ◌^◌, ◌<◌, ◌≤◌, ◌∙◌, ap, refl, arith, inl}
use Rattle.std.proofs.Common.{inr}
use Rattle.std.proofs.lemmas.Bool.{cases_lt}
use Rattle.std.proofs.Math.Nat.{two-pow-succ, pow-le-pow_right, mod-eq_of_lt}
use Rattle.std.proofs.lemmas.Nat.{pow-add}
use Rattle.std.specs.Int.Count.{count_trailing_zeros}
use lib.Count.{under}
use Rattle.modular_transform.specs.Orders.{bits_reversed}

pub bits_reversed-zero : (p : ℕ) → bits_reversed 0 p ≡ 0
unfolding bits_reversed
bits_reversed-zero p = refl

pub bits_reversed-suc : (t p : ℕ) → bits_reversed (suc t) p ≡ bits_reversed t (p / 2) + (p % 2) * 2 ^ t
unfolding bits_reversed
bits_reversed-suc t p = refl

-- a bit times a number
bit_times : (b n : ℕ) → b < 2 → b * n ≤ n
bit_times b n h = grind arith

pub bits_reversed_below : (t p : ℕ) → bits_reversed t p < 2 ^ t
bits_reversed_below zero p = let e = bits_reversed-zero p in let k : 2 ^ 0 ≡ 1 = refl in omega (arith, e, k)
bits_reversed_below (suc t) p =
    let h = bits_reversed_below t (p / 2) in
    omega (arith, bits_reversed-suc, bit_times, two-pow-succ)

-- the highest bit becomes the lowest
pub bits_reversed_of_high : (t p b : ℕ) → p < 2 ^ t → b < 2
    → bits_reversed (suc t) (p + b * 2 ^ t) ≡ 2 * bits_reversed t p + b
bits_reversed_of_high zero p b below bit = omega (arith, bits_reversed-suc, bits_reversed-zero)
bits_reversed_of_high (suc t) p b below bit =
    let k = two-pow-succ t in
    let kb = ap (λ v. b * v) k in
    let half : (p + b * 2 ^ suc t) / 2 ≡ p / 2 + b * 2 ^ t = omega arith in
    let low : (p + b * 2 ^ suc t) % 2 ≡ p % 2 = omega arith in
    let ih = bits_reversed_of_high t (p / 2) b (omega (arith, k)) bit in
    let f = ap (λ v. bits_reversed (suc t) v) half in
    let g = ap (λ v. v * 2 ^ suc t) low in
    let kp = ap (λ v. p % 2 * v) k in
    omega (arith, bits_reversed-suc (suc t) (p + b * 2 ^ suc t), f, g, ih, bits_reversed-suc t p, kp)

-- reversing twice changes nothing
pub bits_reversed_twice : (t p : ℕ) → p < 2 ^ t → bits_reversed t (bits_reversed t p) ≡ p
bits_reversed_twice zero p below = let k : 2 ^ 0 ≡ 1 = refl in
    let e = bits_reversed-zero (bits_reversed 0 p) in omega (arith, e)
bits_reversed_twice (suc t) p below =
    let h = bits_reversed_of_high t (bits_reversed t (p / 2)) (p % 2) (bits_reversed_below t (p / 2)) (omega arith) in
    let ih = bits_reversed_twice t (p / 2) (omega (arith, two-pow-succ t)) in
    omega (arith, ap (λ v. bits_reversed (suc t) v) (bits_reversed-suc t p), h, ih)

-- the bits of two parts are reversed apart, and the parts change their places
pub bits_reversed_of_parts : (t u x y : ℕ) → x < 2 ^ t
    → bits_reversed (t + u) (x + 2 ^ t * y) ≡ bits_reversed t x * 2 ^ u + bits_reversed u y
bits_reversed_of_parts zero u x y below = grind (arith, bits_reversed-zero)
bits_reversed_of_parts (suc t) u x y below =
    let k = two-pow-succ t in
    let ky = ap (λ v. v * y) k in
    let half : (x + 2 ^ suc t * y) / 2 ≡ x / 2 + 2 ^ t * y = omega (arith, ky) in
    let low : (x + 2 ^ suc t * y) % 2 ≡ x % 2 = omega (arith, ky) in
    let ih = bits_reversed_of_parts t u (x / 2) y (omega (arith, k)) in
    let whole : suc t + u ≡ suc (t + u) = omega arith in
    let w = ap (λ v. bits_reversed v (x + 2 ^ suc t * y)) whole in
    let g = ap (λ v. v * 2 ^ (t + u)) low in
    let p = ap (λ v. x % 2 * v) (pow-add 2 t u) in
    let d = ap (λ v. v * 2 ^ u) (bits_reversed-suc t x) in
    omega (arith, w, bits_reversed-suc (t + u) (x + 2 ^ suc t * y), ap (λ v. bits_reversed (t + u) v) half, g, ih, p, d)

-- the bits of 0
pub bits_reversed_of_zero : (t : ℕ) → bits_reversed t 0 ≡ 0
bits_reversed_of_zero zero = bits_reversed-zero 0
bits_reversed_of_zero (suc t) = grind (arith, bits_reversed-suc t 0, bits_reversed_of_zero t)

-- how the reversed bits of p come from those of p - 1, where p ends in t zeros
pub record NextReversed (b p t : ℕ) : Type 0 where
  pub few : t < b
  pub next : bits_reversed b p + 2 ^ b ≡ bits_reversed b (p - 1) + 3 * 2 ^ (b - 1 - t)

next_reversed_of_longer_number : (c p t r : ℕ) → p % 2 ≡ r → r < 2 → 0 < p → (0 < p / 2 → NextReversed c (p / 2) t)
    → NextReversed (suc c) p (under r t)
next_reversed_of_longer_number c p t zero even l some half = grind (arith, two-pow-succ, bits_reversed-suc)
next_reversed_of_longer_number c p t (suc zero) odd l some half = grind (arith, two-pow-succ, bits_reversed-suc)
next_reversed_of_longer_number c p t (suc (suc r)) e l some half = absurd (omega arith)

pub next_reversed : (w b p : ℕ) → 0 < p → p < 2 ^ w → p < 2 ^ b → NextReversed b p (count_trailing_zeros w p)
unfolding count_trailing_zeros
next_reversed zero b p some k l = let z : 2 ^ 0 ≡ 1 = refl in absurd (omega (arith, z))
next_reversed (suc w) zero p some k l = let z : 2 ^ 0 ≡ 1 = refl in absurd (omega (arith, z))
next_reversed (suc w) (suc c) p some k l =
    next_reversed_of_longer_number c p (count_trailing_zeros w (p / 2)) (p % 2) refl (omega arith) some
    (λ h. next_reversed w c (p / 2) h (omega (arith, two-pow-succ w)) (omega (arith, two-pow-succ c)))

exponent_below_64 : (b : ℕ) → 2 ^ b < 2 ^ 64 → b ≤ 63
exponent_below_64 b l = elim (cases_lt b 64) [
  | inl h ↦ omega arith
  | inr h ↦ let m = pow-le-pow_right {n = 2} (omega arith) {i = 64} {j = b} h in absurd (omega (arith, m))
]

-- one step of the reversed place of n places, o being the reversed place of p - 1
pub record ReversedStep (b p n o s : ℕ) : Type 0 where
  pub zeros : count_trailing_zeros 64 p ≤ b - 1
  pub twice : 2 * s ≤ n
  pub small : n ≤ 2 ^ 63
  pub below : o < n
  pub enough : n - 2 * s ≤ o + s
  pub next : o + s - (n - 2 * s) ≡ bits_reversed b p

pub reversed_step : (b p n o s : ℕ) → n ≡ 2 ^ b → n < 2 ^ 64 → 0 < p → p < n → o ≡ bits_reversed b (p - 1)
    → s ≡ (1 * 2 ^ (b - 1 - count_trailing_zeros 64 p)) % 18446744073709551616 → ReversedStep b p n o s
reversed_step zero p n o s whole fits some l is_o is_s = let z : 2 ^ 0 ≡ 1 = refl in absurd (omega (arith, z))
reversed_step (suc c) p n o s whole fits some l is_o is_s =
    let t : ℕ = count_trailing_zeros 64 p in
    let k = next_reversed 64 (suc c) _ some (omega arith) (omega arith) in
    let less = pow-le-pow_right {n = 2} (omega arith) {i = suc c - 1 - t} {j = c} (omega arith) in
    let most = pow-le-pow_right {n = 2} (omega arith) {i = suc c} {j = 63} (exponent_below_64 _ (omega arith)) in
    record {
      zeros = omega arith;
      twice = omega (arith, less);
      small = omega (arith, most);
      below = omega (arith, bits_reversed_below (suc c) (p - 1));
      enough = omega (arith, less);
      next = omega (arith, less);
    }

-- the same of 2^b places in a word, the number of the places being a shifted one
pub step_in_word : (o p b : ℕ) → b ≤ 63 → p < 2 ^ b → o ≡ bits_reversed b (p - 1) → p ≢ 0
    → ReversedStep b p ((1 * 2 ^ b) % 18446744073709551616) o
    ((1 * 2 ^ (b - 1 - count_trailing_zeros 64 p)) % 18446744073709551616)
step_in_word o p b few below is_o some =
    let most = pow-le-pow_right {n = 2} (omega arith) {i = b} {j = 63} few in
    let whole : (1 * 2 ^ b) % 18446744073709551616 ≡ 2 ^ b =
    ap (λ v. v % 18446744073709551616) (omega arith) ∙ mod-eq_of_lt (omega (arith, most)) in
    reversed_step b p _ o _ whole (omega (arith, most, whole)) (omega arith) (omega (arith, whole)) is_o refl
