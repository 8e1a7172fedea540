-- The lowest bit of the words in which turns are added up.
use Rattle.std.proofs.Common.{◌≡◌, ℕ, zero, suc, ◌+◌, ◌/◌, ◌%◌, ◌^◌, ◌<◌, Bool, true, false, eqb, ◌&&◌, ◌∙◌, sym, ap}
use Rattle.std.proofs.Common.{refl, arith}
use Rattle.std.proofs.Math.Bool.{beq, not}
use Rattle.std.proofs.Math.Nat.{mod-lt}
use Rattle.std.proofs.lemmas.Bool.{false≢true}
use Rattle.std.proofs.lemmas.Bool.Decides.{nat_tests}
use Rattle.std.proofs.lemmas.Nat.{and_mod, and_shr, xor_shr}
use Rattle.std.specs.Int.Bits.{bit_and, bit_xor, xor_add_and}
use Rattle.modular_symbols.proofs.KroneckerSteps.{leaves_3_or_5}
use Rattle.modular_symbols.proofs.TurnedSymbols.{both_leave_3}

-- whether the lowest bit is set
abbrev pub is_odd : ℕ → Bool
is_odd x = eqb (x % 2) 1

-- what isn't false after a negation
pub is_true_by_false_negation : (b : Bool) → not b ≡ false → b ≡ true
is_true_by_false_negation true e = refl
is_true_by_false_negation false e = absurd (false≢true (sym e))

-- two counts of turns
pub odd-sum : (p q : ℕ) → is_odd (p + q) ≡ not (beq (is_odd p) (is_odd q))
odd-sum p q = grind (arith, nat_tests)

-- exclusive or adds counts of turns
pub xor-parity : (x y : ℕ) → bit_xor x y % 2 ≡ (x + y) % 2
xor-parity x y = omega (arith, xor_add_and x y)

pub xor-parities : (r s t u : ℕ) → (bit_xor r s / 2 + bit_xor t u) % 2 ≡ (r / 2 + t + (s / 2 + u)) % 2
xor-parities r s t u = omega (arith, xor-parity (r / 2) (s / 2), xor-parity t u, xor_shr r s 1)

and-bits : (r s : ℕ) → r < 2 → s < 2 → eqb (bit_and r s) 1 ≡ eqb r 1 && eqb s 1
and-bits zero zero k l = refl
and-bits zero (suc zero) k l = refl
and-bits (suc zero) zero k l = refl
and-bits (suc zero) (suc zero) k l = refl
and-bits (suc (suc r)) s k l = absurd (omega arith)
and-bits r (suc (suc s)) k l = absurd (omega arith)

odd-and : (x y : ℕ) → is_odd (bit_and x y) ≡ is_odd x && is_odd y
odd-and x y =
    ap (λ v. eqb v 1) (and_mod x y 1) ∙ and-bits (x % 2) (y % 2) (mod-lt x (omega arith)) (mod-lt y (omega arith))

-- the second bit of the low part of an odd number
second_bit : (n l : ℕ) → n % 2 ≡ 1 → l ≡ n % 2 ^ 32 → is_odd (l / 2) ≡ eqb (n % 4) 3
second_bit n l o e = grind (arith, nat_tests)

-- the second bits of the low parts of two odd numbers
pub odd-both : (m n k l : ℕ) → m % 2 ≡ 1 → n % 2 ≡ 1 → k ≡ m % 2 ^ 32 → l ≡ n % 2 ^ 32
    → is_odd (bit_and k l / 2) ≡ both_leave_3 m n
odd-both m n k l o p e f =
    ap is_odd (and_shr k l 1) ∙ odd-and (k / 2) (l / 2) ∙ search (arith, second_bit)

-- the third bit of the low part and 2, where the lowest of s is set
pub third_bit_tells_residue_class : (s n l : ℕ) → n % 2 ≡ 1 → l ≡ n % 2 ^ 32
    → is_odd (bit_and s ((l + 2) % 2 ^ 32 / 4)) ≡ is_odd s && leaves_3_or_5 n
third_bit_tells_residue_class s n l o e = odd-and s ((l + 2) % 2 ^ 32 / 4)
    ∙ ap (λ v. is_odd s && v) (grind (arith, nat_tests))
