-- The Kronecker symbol by the parts of the two numbers: their signs, the power of two, the odd part.
use Rattle.std.proofs.Common.{if◌then◌else◌, ◌≡◌, ◌≢◌, ℕ, zero, suc, ◌+◌, ◌/◌, ◌%◌, ◌^◌, ◌<◌, ◌≤◌, Bool, true}
use Rattle.std.proofs.Common.{false, IsTrue, ◌==◌, eqb, ◌&&◌, ◌||◌, ◌↔◌, ℤ, pos}
use Rattle.std.proofs.Common.{negsuc, ◌*ℤ◌, nat_abs, int_lt, sym, ◌∙◌, ap, refl, arith}
use Rattle.std.specs.Int.{int_pow}
use Rattle.std.proofs.lemmas.Bool.Decides.{nat_tests}
use Rattle.std.specs.Int.Count.{count_trailing_zeros}
use Rattle.std.proofs.Math.Nat.{div-one, pow-zero, pow-suc}
use Rattle.modular_word.proofs.Powers.{one-pow}
use Rattle.modular_symbols.specs.Jacobi.{jacobi}
use Rattle.modular_symbols.specs.Kronecker.{signed, over_two, kronecker_above, kronecker}
use Rattle.modular_symbols.proofs.CountSteps.{nat_abs-signed}
use Rattle.modular_symbols.proofs.JacobiLaws.{one_times, minus_one_times, zero_times}
use Rattle.modular_symbols.proofs.TwoPart.{SplitAt, split_odd, split_at, twos-is}

-- a symbol is -1, 0 or 1
pub jacobi-small : (z : ℤ) (n : ℕ) → nat_abs (jacobi z n) ≤ 1
unfolding jacobi
jacobi-small z n = grind (arith, nat_tests)

power_zero : (z : ℤ) → int_pow z 0 ≡ pos 1
power_zero (pos a) = ap pos (pow-zero a)
power_zero (negsuc a) = ap pos (pow-zero (suc a))

integer_power_of_zero : (s : ℕ) → 0 < s → int_pow (pos 0) s ≡ pos 0
integer_power_of_zero zero h = absurd (omega arith)
integer_power_of_zero (suc s) h = ap pos (let e : 0 ^ suc s ≡ 0 = omega (arith, pow-suc 0 s) in e)

-- ---- the symbol over 2, by the magnitude
over_two-even : (minus : Bool) (a : ℕ) → a % 2 ≡ 0 → over_two (signed minus (pos a)) ≡ pos 0
over_two-even true zero e = refl
over_two-even true (suc a) e = grind (arith, nat_tests)
over_two-even false a e = grind (arith, nat_tests)

-- a is 3 or 5 modulo 8
abbrev pub leaves_3_or_5 : ℕ → Bool
leaves_3_or_5 a = (a % 8 == 3) || (a % 8 == 5)

-- half of an odd number, and 1, has an odd half for these
pub half_more_is_3_or_5 : (a h k q : ℕ) (s : Bool) → a % 2 ≡ 1 → h ≡ a / 2 → k ≡ h + 1 → q ≡ k / 2
    → (IsTrue s ↔ (q % 2 ≡ 1)) → s ≡ leaves_3_or_5 a
half_more_is_3_or_5 a h k q s o e f g d = grind (arith, nat_tests)

over_two-odd : (minus : Bool) (a : ℕ) → a % 2 ≡ 1 → over_two (signed minus (pos a)) ≡ signed (leaves_3_or_5 a) (pos 1)
over_two-odd true zero e = absurd (omega arith)
over_two-odd true (suc a) e = grind (arith, nat_tests)
over_two-odd false a e = grind (arith, nat_tests)

power_of_sign : (b : Bool) (s : ℕ) → int_pow (signed b (pos 1)) s ≡ signed ((s % 2 == 1) && b) (pos 1)
power_of_sign true s = let o = one-pow s in grind (arith, nat_tests)
power_of_sign false s = let o = one-pow s in grind (arith, nat_tests)

sign_times : (b : Bool) (z : ℤ) → signed b (pos 1) *ℤ z ≡ signed b z
sign_times true z = minus_one_times z
sign_times false z = one_times z

some_twos : (n s : ℕ) → n % 2 ≢ 1 → SplitAt n s → 0 < s
some_twos n zero f split = absurd (f (ap (λ v. v % 2) (sym (div-one n)) ∙ split.odd))
some_twos n (suc s) f split = omega arith

-- ---- over n of at least 1
above-form : (z : ℤ) (n s : ℕ) → SplitAt n s → kronecker_above z n ≡ int_pow (over_two z) s *ℤ jacobi z (n / 2 ^ s)
unfolding kronecker_above
above-form z n s split = ap (λ v. int_pow (over_two z) v *ℤ jacobi z (n / 2 ^ v)) (twos-is n s split)

pub above-odd : (z : ℤ) (n : ℕ) → n % 2 ≡ 1 → kronecker_above z n ≡ jacobi z n
above-odd z n o =
    above-form _ _ _ (split_odd _ o) ∙ ap (λ t. t *ℤ jacobi z (n / 2 ^ 0)) (power_zero (over_two z))
    ∙ one_times (jacobi z (n / 2 ^ 0)) ∙ ap (λ k. jacobi z k) (div-one _)

pub above-both_even : (minus : Bool) (a n w : ℕ) → a % 2 ≢ 1 → n % 2 ≢ 1 → 0 < n → n < 2 ^ w
    → kronecker_above (signed minus (pos a)) n ≡ pos 0
above-both_even minus a n w e f p l =
    let z = signed minus (pos a) in
    let s : ℕ = count_trailing_zeros w n in
    let split = split_at w n p l in
    let form = above-form z n s split in
    search (arith, over_two-even, integer_power_of_zero, some_twos, zero_times)

pub above-twos : (minus : Bool) (a n s : ℕ) → a % 2 ≡ 1 → SplitAt n s
    → kronecker_above (signed minus (pos a)) n
    ≡ signed ((s % 2 == 1) && leaves_3_or_5 a) (jacobi (signed minus (pos a)) (n / 2 ^ s))
above-twos minus a n s o split =
    let z = signed minus (pos a) in
    let form = above-form (signed minus (pos a)) n s split in
    search (arith, over_two-odd, power_of_sign, sign_times)

pub times_two : (s a : ℕ) (b : Bool) → s % 2 ≡ 1 → b ≡ leaves_3_or_5 a → b ≡ (s % 2 == 1) && leaves_3_or_5 a
times_two s a b e f = f ∙ sym (ap (λ r. eqb r 1 && leaves_3_or_5 a) e)

pub times_four : (s a : ℕ) (b : Bool) → s % 2 ≢ 1 → b ≡ (s % 2 == 1) → b ≡ (s % 2 == 1) && leaves_3_or_5 a
times_four s a b e f = search arith

-- ---- over any n
negative_is : (minus : Bool) (a : ℕ) → (IsTrue minus → 0 < a) → int_lt (signed minus (pos a)) (pos 0) ≡ minus
negative_is true zero h = absurd (let p = h refl in omega arith)
negative_is true (suc a) h = refl
negative_is false a h = grind (arith, nat_tests)

pub kronecker-over_zero : (a_minus n_minus : Bool) (a n : ℕ) → n ≡ 0
    → kronecker (signed a_minus (pos a)) (signed n_minus (pos n)) ≡ (if a == 1 then pos 1 else pos 0)
kronecker-over_zero a_minus n_minus a n e = search (arith, nat_abs-signed)

pub kronecker-over : (a_minus n_minus : Bool) (a n : ℕ) → (IsTrue a_minus → 0 < a) → (IsTrue n_minus → 0 < n) → 0 < n
    → kronecker (signed a_minus (pos a)) (signed n_minus (pos n))
    ≡ signed (a_minus && n_minus) (kronecker_above (signed a_minus (pos a)) n)
kronecker-over a_minus n_minus a n h k p = search (arith, nat_abs-signed, nat_tests, negative_is)
