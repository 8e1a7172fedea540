-- The high word of a sum of double words whose low word is 0.
use Rattle.std.proofs.Common.{◌≡◌, ℕ, ◌+◌, ◌*◌, ◌/◌, ◌%◌, ◌<◌, Bool, IsTrue, IsFalse, arith}
use Rattle.std.proofs.Math.Nat.{div-eq_of_lt-le, mul-lt-mul_of_pos_left}
use Rattle.std.proofs.lemmas.Bool.{false_from_ne_true}
use Rattle.modular_word.proofs.Divisors.{multiple_of}

-- it is the sum divided by the base
pub high_is : (B s l h : ℕ) → s ≡ l + B * h → l < B → s / B ≡ h
high_is B s l h parts below = grind (arith, div-eq_of_lt-le)

-- a sum whose high word is below m doesn't overflow
pub small_sum_has_no_carry : (B m s sum : ℕ) (carry : Bool) → s % B ≡ 0 → s / B < m → m < B
    → (IsTrue carry → s ≡ sum + B * B)
    → (IsFalse carry → s ≡ sum) → s ≡ sum
small_sum_has_no_carry B m s sum carry cleared below fits carried exact =
    grind (arith, multiple_of, mul-lt-mul_of_pos_left, false_from_ne_true)
