-- A difference of two words as a double word: its low word, and in the high one a borrow in all bits.
use Rattle.std.proofs.Common.{◌≡◌, ℕ, ◌+◌, ◌-◌, ◌*◌, ◌%◌, ◌^◌, ◌<◌, ◌≤◌, bit_and, ◌∙◌, ap, arith}
use Rattle.std.proofs.Math.Nat.{mod-eq_of_lt}
use Rattle.std.proofs.lemmas.Nat.{and_comm, and_mask}

-- where there is a borrow, the modulus is added ..
pub difference_with_borrow : (a b m low high : ℕ) → a < b → b < m → m < 2 ^ 64
    → (a + (2 ^ 128 - b)) % 2 ^ 128 ≡ low + 2 ^ 64 * high
    → low < 2 ^ 64 → high < 2 ^ 64 → (low + bit_and high m) % 2 ^ 64 + b ≡ a + m
difference_with_borrow a b m low high less below fits parts low_fits high_fits =
    let ones : high ≡ 2 ^ 64 - 1 = omega arith in
    let all : bit_and high m ≡ m = ap (λ v. bit_and v m) ones ∙ and_comm (2 ^ 64 - 1) m ∙ and_mask m 64
    ∙ mod-eq_of_lt fits in
    omega (arith, (ap (λ v. (low + v) % 2 ^ 64) all))

-- .. and else nothing
pub difference_without_borrow : (a b m low high : ℕ) → b ≤ a → a < 2 ^ 64
    → (a + (2 ^ 128 - b)) % 2 ^ 128 ≡ low + 2 ^ 64 * high
    → low < 2 ^ 64 → (low + bit_and high m) % 2 ^ 64 + b ≡ a
difference_without_borrow a b m low high less fits parts low_fits = grind arith
