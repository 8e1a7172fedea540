-- The power of two in a number, and the odd number that is left.
use Rattle.std.proofs.Common.{◌≡◌, ◌≢◌, ℕ, zero, suc, ◌+◌, ◌-◌, ◌*◌, ◌/◌, ◌%◌, ◌^◌}
use Rattle.std.proofs.Common.{◌<◌, ◌≤◌, sym, ap, ◌∙◌, arith, refl, ⊎_elim, subst}
use Rattle.std.proofs.Math.Nat.{pow-suc, div-div-eq-div-mul, pow-zero, div-one}
use Rattle.std.proofs.Math.Nat.{mod-lt, mul-le-mul_left, mul-le-mul_right}
use Rattle.std.proofs.lemmas.Bool.Decides.{nat_tests}
use Rattle.std.proofs.lemmas.Nat.{pow_pos, pow-add, trailing_le}
use Rattle.std.specs.Int.Count.{count_trailing_zeros}
use lib.Count.{under}
use Rattle.modular_word.proofs.Congruence.{factor_cancel}
use Rattle.modular_word.proofs.Divisors.{remainder_of_multiple_is_zero, divides_rest, divides_through, multiple_of}
use Rattle.modular_word.proofs.Sums.{last_or_before}
use Rattle.modular_symbols.specs.Kronecker.{twos_up_to, twos}

-- 2^s divides n, and the quotient is odd
pub record SplitAt (n s : ℕ) : Type 0 where
  pub whole : n / 2 ^ s * 2 ^ s ≡ n
  pub odd : (n / 2 ^ s) % 2 ≡ 1

pub split_odd : (n : ℕ) → n % 2 ≡ 1 → SplitAt n 0
split_odd n o = search (arith, div-one, pow-zero)

-- ---- the exponent
exponent-below : (s : ℕ) → s < 2 ^ s
exponent-below zero = pow_pos 0
exponent-below (suc s) = let l = exponent-below s in omega (arith, pow-suc 2 s)

-- no greater power divides
no_more : (n s k : ℕ) → s < k → SplitAt n s → n % 2 ^ k ≢ 0
no_more n s k l split e =
    let p : 2 ^ k ≡ 2 ^ suc s * 2 ^ (k - suc s) =
    ap (λ v. 2 ^ v) (omega arith) ∙ pow-add _ (suc s) (k - suc s) in
    let d : n % 2 ^ suc s ≡ 0 = search (arith, divides_through, remainder_of_multiple_is_zero) in
    let u = ap (λ v. v * (n / 2 ^ suc s)) (pow-suc 2 s) in
    let w : 2 ^ s * (n / 2 ^ s) ≡ 2 ^ s * (2 * (n / 2 ^ suc s)) = omega (arith, split.whole) in
    search (arith, factor_cancel, pow_pos)

twos_from : (n s k : ℕ) → s ≤ k → SplitAt n s → twos_up_to n k ≡ s
unfolding twos_up_to
twos_from n s zero l split = omega arith
twos_from n s (suc k) l split =
    ⊎_elim
    (λ (b : s ≤ k). grind (arith, nat_tests, no_more n s (suc k) (omega arith) split, twos_from n s k b split))
    (λ (e : s ≡ suc k). search (arith, remainder_of_multiple_is_zero, nat_tests)) (last_or_before _ _ l)

-- it is the exponent of 2
pub twos-is : (n s : ℕ) → SplitAt n s → twos n ≡ s
twos-is n s split =
    let one : 1 * 2 ^ s ≤ n / 2 ^ s * 2 ^ s = mul-le-mul_right _ (let b : 1 ≤ n / 2 ^ s = omega arith in b) in
    search (arith, exponent-below, twos_from)

-- ---- the trailing zeros of a word
split_step : (n t r : ℕ) → n % 2 ≡ r → r < 2 → 0 < n → (0 < n / 2 → SplitAt (n / 2) t) → SplitAt n (under r t)
split_step n t zero e l h half = search (arith, pow-suc, div-div-eq-div-mul)
split_step n t (suc zero) e l h half = split_odd n e
split_step n t (suc (suc r)) e l h half = absurd (omega arith)

pub split_at : (w n : ℕ) → 0 < n → n < 2 ^ w → SplitAt n (count_trailing_zeros w n)
unfolding count_trailing_zeros
split_at zero n h k = absurd (omega arith)
split_at (suc w) n h k =
    split_step n (count_trailing_zeros w (n / 2)) (n % 2) refl (mod-lt n (omega arith)) h
    (λ p. split_at w (n / 2) p (omega (arith, pow-suc 2 w)))

-- a number of w bits that isn't 0 has fewer trailing zeros
pub trailing_zeros_below_width : (w v : ℕ) → 0 < v → v < 2 ^ w → count_trailing_zeros w v < w
trailing_zeros_below_width w v p l =
    let split : SplitAt v (count_trailing_zeros w v) = split_at _ _ p l in
    search (arith, trailing_le, mul-le-mul_right)

-- the trailing zeros of the number that a power of two lacks d
pub split_opposite : (w v d : ℕ) → 0 < v → 0 < d → v + d ≡ 2 ^ w → SplitAt d (count_trailing_zeros w v)
split_opposite w v d p q e =
    let s : ℕ = count_trailing_zeros w v in
    let split : SplitAt v s = split_at _ _ p (omega arith) in
    let u : ℕ = v / 2 ^ s in
    let below : s < w = trailing_zeros_below_width _ _ p (omega arith) in
    let m : ℕ = 2 ^ (w - suc s) in
    let power : 2 ^ w ≡ 2 ^ s * (2 * m) =
    ap (λ k. 2 ^ k) (omega arith) ∙ pow-add _ (suc s) (w - suc s) ∙ ap (λ k. k * m) (pow-suc _ _) ∙ omega arith in
    let rest : d ≡ 2 ^ s * (d / 2 ^ s) = multiple_of _ _
    (divides_rest _ _ _ (remainder_of_multiple_is_zero (2 ^ s) v u (omega arith)) (remainder_of_multiple_is_zero _ _ _
    (e ∙ power))) in
    let sum : u + d / 2 ^ s ≡ 2 * m = factor_cancel (2 ^ s) (u + d / 2 ^ s) (2 * m) (pow_pos s) (omega arith) in
    search arith

-- ---- the odd part
-- x is 2 ^ s times the odd number a
pub record Halved (x s a : ℕ) : Type 0 where
  pub odd : a % 2 ≡ 1
  pub whole : a * 2 ^ s ≡ x
  pub within : a ≤ x

pub halved_by : (x s a : ℕ) → a % 2 ≡ 1 → a * 2 ^ s ≡ x → Halved x s a
halved_by x s a o m = search (arith, pow_pos, mul-le-mul_left)

pub halved_split : (x s a : ℕ) → SplitAt x s → a ≡ x / 2 ^ s → Halved x s a
halved_split x s a split f = halved_by x s a (ap (λ v. v % 2) f ∙ split.odd) (ap (λ v. v * 2 ^ s) f ∙ split.whole)

pub Halved-of_shift : (w x s a : ℕ) → (x ≡ 0 → ⊥) → x < 2 ^ w → s ≡ count_trailing_zeros w x → a ≡ x / 2 ^ s
    → Halved x s a
Halved-of_shift w x s a p l e f = halved_split x s a (subst (λ v. SplitAt x v) (sym e) (split_at w x (omega arith) l)) f
