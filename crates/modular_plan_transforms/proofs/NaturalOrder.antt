-- Lists in another order; the remainders modulo X - c, put in natural order, are the transform.
use Rattle.std.proofs.Common.{◌≡◌, ℕ, suc, zero, ◌+◌, ◌-◌, ◌*◌, ◌/◌, ◌%◌, ◌^◌, ◌<◌}
use Rattle.std.proofs.Common.{◌≤◌, List, [], ◌∷◌, All, get_or, length, inl, inr, refl, sym, ◌∙◌, ap, arith}
use Rattle.std.proofs.Math.Nat.{two-pow-succ, pow-le-pow_right, mul-div_cancel_left}
use Rattle.std.proofs.lemmas.Bool.{cases_lt}
use Rattle.std.proofs.lemmas.Nat.{pow-add, pow_pos}
use Rattle.modular_word.proofs.Powers.{pow-mul, pow-one}
use Rattle.modular_word.proofs.Sums.{sum_below-same}
use Rattle.modular_transform.specs.Orders.{bits_reversed, IsReordered}
use Rattle.modular_transform.specs.Transforms.{transform}
use Rattle.modular_transform.proofs.BitReversal.{bits_reversed-suc, bits_reversed_of_zero}
use Rattle.modular_transform.proofs.BitReversal.{bits_reversed_below, bits_reversed_twice}
use Rattle.modular_plan_passes.specs.Plans.{numbers, constant, AreRemainders}
use Rattle.modular_plan_passes.proofs.Entries.{number_at}

-- a list in another order has what all had
pub all_reordered : {T : Type 0} (P : T → Type 0) (bits n : ℕ) (old new : List T) → n ≡ 2 ^ bits
    → length old ≡ n → length new ≡ n
    → IsReordered (bits_reversed bits) old new → All P old → All P new
all_reordered P bits n old new whole len len_new reordered all i d l = grind (arith, bits_reversed_below)

-- the number at a place of the new list is that at a place of the old one
pub number_reordered : {T : Type 0} (number : T → ℕ) (old new : List T) (k j : ℕ) → k < length new → j < length old
    → ((d : T) → get_or new k d ≡ get_or old j d)
    → numbers number new k ≡ numbers number old j
number_reordered number old [] k j l lo e = absurd (omega arith)
number_reordered number old (x ∷ xs) k j l lo e =
    sym (number_at number (x ∷ xs) k x l) ∙ ap number (e x) ∙ number_at number old j x lo

-- a number below 2^t with its bits reversed among w = t + d
reversed_among_more : (d t w p : ℕ) → w ≡ t + d → p < 2 ^ t → bits_reversed w p ≡ bits_reversed t p * 2 ^ d
reversed_among_more d zero w p e below =
    let none : p ≡ 0 = omega arith in
    rw none (rw (bits_reversed_of_zero w) (rw (bits_reversed_of_zero 0) (omega arith)))
reversed_among_more d (suc t) w p e below =
    let two = two-pow-succ t in
    let is_next : w ≡ suc (t + d) = omega (arith, e) in
    rw is_next (rw (bits_reversed-suc (t + d) p) (rw (bits_reversed-suc t p) (rw (pow-add 2 t d)
    (rw (reversed_among_more d t (t + d) (p / 2) refl (omega (arith, below, two))) (omega arith)))))

-- a table for 2^z entries is long enough for 2^bits
pub no_more_bits : (bits z n count : ℕ) → n ≡ 2 ^ bits → count ≡ 2 ^ z / 2 → n / 2 ≤ count → bits ≤ z
no_more_bits bits z n count whole half within = elim (cases_lt z bits) [
  | inl more ↦
      let least : 2 ^ suc z ≤ 2 ^ bits = pow-le-pow_right (omega arith) (omega (arith, more)) in
      absurd (omega (arith, whole, half, within, two-pow-succ z, pow_pos z, least))
  | inr enough ↦ enough
]

-- the powers of the constant of a block are those of the root for n entries
constant_power : (g d z n bits j k : ℕ) → z ≡ bits + d → j < 2 ^ bits
    → constant g z (0 * n + bits_reversed bits j) ^ k ≡ (g ^ (2 ^ d)) ^ (k * j)
constant_power g d z n bits j k is_more below =
    let p = bits_reversed bits j in
    let first : 0 * n + p ≡ p = omega arith in
    let turn : bits_reversed z (0 * n + p) ≡ j * 2 ^ d = ap (λ v. bits_reversed z v) first
    ∙ rw (bits_reversed_twice bits j below) at (reversed_among_more d bits z p is_more (bits_reversed_below bits j)) in
    ap (λ v. (g ^ v) ^ k) turn ∙ sym (pow-mul g (j * 2 ^ d) k) ∙ ap (λ v. g ^ v) (omega arith)
    ∙ pow-mul g (2 ^ d) (k * j)

-- remainders modulo X - c by a table for 2^d times as many entries are the transform, at the index with reversed bits
pub transform_at_reversed : (m g d z n bits : ℕ) (x y : ℕ → ℕ) → z ≡ bits + d → n ≡ 2 ^ bits
    → AreRemainders m g z 0 n 1 x y
    → (j : ℕ) → j < n → y (bits_reversed bits j) ≡ transform m (g ^ (2 ^ d)) n x j
transform_at_reversed m g d z n bits x y is_more whole remainders j below =
    let p = bits_reversed bits j in
    let inside : j < 2 ^ bits = omega (arith, whole, below) in
    let place : p ≡ p * 1 + 0 = omega arith in
    let terms = sum_below-same n (λ k. x (k * 1 + 0) * constant g z (0 * n + p) ^ k)
    (λ k. x k * (g ^ (2 ^ d)) ^ (k * j)) (λ k l. grind (arith, constant_power g d z n bits j k is_more inside)) in
    ap y place ∙ remainders.each p 0 (omega (arith, whole, bits_reversed_below bits j)) (omega arith)
    ∙ ap (λ v. v % m) terms

-- the list of remainders modulo X - c, with its places' bits reversed, is the transform
pub in_natural_order : {T : Type 0} (number : T → ℕ) (m g z n count bits : ℕ) (x : ℕ → ℕ) (split new : List T)
    → n ≡ 2 ^ bits → count ≡ 2 ^ z / 2
    → n / 2 ≤ count → length split ≡ n → length new ≡ n → IsReordered (bits_reversed bits) split new
    → AreRemainders m g z 0 n 1 x (numbers number split)
    → (j : ℕ) → j < n → numbers number new j ≡ transform m (g ^ (2 ^ z / n)) n x j
in_natural_order number m g z n count bits x split new whole half within len len_new reordered remainders j below =
    let p = bits_reversed bits j in
    let d = z - bits in
    let more = no_more_bits bits z n count whole half within in
    let is_more : z ≡ bits + d = omega (arith, more) in
    let at = number_reordered number split new j p (omega (arith, len_new, below))
    (omega (arith, len, whole, bits_reversed_below bits j)) (λ e. reordered.each j e (omega (arith, len, below))) in
    let root : 2 ^ z / n ≡ 2 ^ d = grind (arith, pow-add 2 bits d, mul-div_cancel_left (2 ^ d) (pow_pos bits)) in
    at ∙ rw root (transform_at_reversed m g d z n bits x (numbers number split) is_more whole remainders j below)

-- entry j of the remainders modulo X - c is entry j of the transform in bit-reversed order
pub transform_reversed : (m g d bits n j : ℕ) (x y : ℕ → ℕ) → n ≡ 2 ^ bits → AreRemainders m g (bits + d) 0 n 1 x y
    → j < n → y j ≡ transform m (g ^ (2 ^ d)) n x (bits_reversed bits j)
transform_reversed m g d bits n j x y whole are below =
    ap y (sym (bits_reversed_twice bits j (omega (arith, whole, below))))
    ∙ transform_at_reversed m g d _ n bits x y refl whole are _ (omega (arith, whole, bits_reversed_below bits j))

-- the same by a table for as many entries
pub transform_reversed_whole : (m g bits n j : ℕ) (x y : ℕ → ℕ) → n ≡ 2 ^ bits → AreRemainders m g bits 0 n 1 x y
    → j < n → y j ≡ transform m g n x (bits_reversed bits j)
transform_reversed_whole m g bits n j x y whole are below =
    let more : bits + 0 ≡ bits = omega arith in
    transform_reversed m g 0 bits n j x y whole (rw more are) below
    ∙ ap (λ v. transform m v n x (bits_reversed bits j)) (pow-one g)
