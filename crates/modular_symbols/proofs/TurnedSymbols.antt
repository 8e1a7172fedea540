-- What turns a symbol, and what a loop keeps of it: the symbol, up to a sign.
use Rattle.std.proofs.Common.{◌≡◌, ◌≢◌, ℕ, zero, suc, ◌+◌, ◌*◌, ◌%◌, ◌^◌, Bool, true, false, cond}
use Rattle.std.proofs.Common.{eqb, ◌&&◌, ℤ, pos, ◌*ℤ◌, sym, ◌∙◌, ap, refl, arith, ⊎_elim, ◌⊎◌}
use Rattle.std.proofs.lemmas.Bool.Decides.{nat_tests}
use Rattle.std.proofs.Math.IntN.{neg_ℤ-neg_ℤ}
use Rattle.std.proofs.Math.Bool.{beq, not}
use Rattle.std.proofs.Math.Nat.{pow-suc, mul-one}
use Rattle.modular_word.specs.Divisors.{Coprime}
use Rattle.modular_symbols.specs.Jacobi.{jacobi, sign}
use Rattle.modular_symbols.specs.Kronecker.{signed}
use Rattle.modular_symbols.proofs.JacobiLaws.{jacobi-coprime, jacobi-shared, coprime_or_not, sign-even, sign-odd}
use Rattle.modular_symbols.proofs.JacobiLaws.{even_or_odd, pairs-parity, one_times, minus_one_times, jacobi-product}
use Rattle.modular_symbols.proofs.JacobiLaws.{jacobi-two, jacobi-zero_one, jacobi-zero}
use Rattle.modular_symbols.proofs.KroneckerSteps.{leaves_3_or_5}
use Rattle.modular_symbols.proofs.Lattice.{counts_reciprocal}

-- ---- signs
-- two turns
pub signed-other : (s t : Bool) (z : ℤ) → signed (not (beq s t)) z ≡ signed s (signed t z)
signed-other s t z = grind (arith, neg_ℤ-neg_ℤ)

signed-zero : (t : Bool) → signed t (pos 0) ≡ pos 0
signed-zero t = grind arith

-- ---- a power of two above
jacobi-twice : (k n : ℕ) → n % 2 ≡ 1 → jacobi (pos (2 * k)) n ≡ signed (leaves_3_or_5 n) (jacobi (pos k) n)
jacobi-twice k n o =
    let product : jacobi (pos (2 * k)) n ≡ jacobi (pos 2) n *ℤ (jacobi (pos k) n) =
    jacobi-product (pos 2) (pos k) _ o in
    grind (arith, nat_tests, jacobi-two n o, minus_one_times, one_times)

one_more_two : (s : ℕ) (t : Bool) (z : ℤ) → signed t (signed (eqb (s % 2) 1 && t) z) ≡ signed (eqb (suc s % 2) 1 && t) z
one_more_two s t z = grind (arith, nat_tests, neg_ℤ-neg_ℤ)

-- a factor 2 ^ s negates the symbol where s is odd and n is 3 or 5 modulo 8
jacobi-twos : (a s n : ℕ) → n % 2 ≡ 1
    → jacobi (pos (a * 2 ^ s)) n ≡ signed (eqb (s % 2) 1 && leaves_3_or_5 n) (jacobi (pos a) n)
jacobi-twos a zero n o = ap (λ v. jacobi (pos v) n) (mul-one a)
jacobi-twos a (suc s) n o =
    let p = ap (λ v. a * v) (pow-suc 2 s) in
    let e : a * 2 ^ suc s ≡ 2 * (a * 2 ^ s) = omega arith in
    search (arith, jacobi-twice, one_more_two, jacobi-twos a s n o)

-- the same by a test of one's own
pub jacobi_twos_by : (b : Bool) (a s n : ℕ) → n % 2 ≡ 1 → b ≡ eqb (s % 2) 1 && leaves_3_or_5 n
    → jacobi (pos (a * 2 ^ s)) n ≡ signed b (jacobi (pos a) n)
jacobi_twos_by b a s n o e = jacobi-twos a s n o ∙ sym (ap (λ v. signed v (jacobi (pos a) n)) e)

-- ---- two odd numbers that change places
sign-turned : (i j : ℕ) (t : Bool) → (i + j) % 2 ≡ cond t 1 0 → sign i ≡ signed t (sign j)
sign-turned i j true e = search (arith, sign-odd, sign-even, even_or_odd)
sign-turned i j false e = search (arith, sign-even, sign-odd, even_or_odd)

-- both m and n are 3 modulo 4
abbrev pub both_leave_3 : ℕ → ℕ → Bool
both_leave_3 m n = eqb (m % 4) 3 && eqb (n % 4) 3

-- the symbol is negated where both are 3 modulo 4, by a test of one's own
pub jacobi_swapped_by : (b : Bool) (m n : ℕ) → m % 2 ≡ 1 → n % 2 ≡ 1 → b ≡ both_leave_3 m n
    → jacobi (pos m) n ≡ signed b (jacobi (pos n) m)
jacobi_swapped_by b m n k o e =
    ⊎_elim
    (λ (c : Coprime m n). search (arith, jacobi-coprime, sign-turned, counts_reciprocal, pairs-parity))
    (λ (z : Coprime m n → ⊥). search (arith, jacobi-shared, signed-zero)) (coprime_or_not _ _ (omega arith))

-- two turns, one after the other
pub two_signs_compose : (x y z : ℤ) (t u : Bool) → x ≡ signed t y → y ≡ signed u z → x ≡ signed (not (beq t u)) z
two_signs_compose x y z t u e f = e ∙ ap (λ v. signed t v) f ∙ sym (signed-other t u z)

-- ---- what a loop keeps
-- the symbol of x over y, turned or not, is w
pub record Keeps (w : ℤ) (x y : ℕ) (turned : Bool) : Type 0 where
  pub odd : y % 2 ≡ 1
  pub value : signed turned (jacobi (pos x) y) ≡ w

pub kept_start : (a n : ℕ) → n % 2 ≡ 1 → Keeps (jacobi (pos a) n) a n false
kept_start a n o = record { odd = o; value = refl }

-- a turn, after which the symbol is that of r over s, turned or not
pub kept_turned : (w : ℤ) (x y r s : ℕ) (t u : Bool) → Keeps w x y t → s % 2 ≡ 1
    → jacobi (pos x) y ≡ signed u (jacobi (pos r) s) → Keeps w r s (not (beq t u))
kept_turned w x y r s t u k o e = search (arith, signed-other)

-- at the end

pub kept_last : (w s : ℤ) (x y : ℕ) (t : Bool) → Keeps w x y t → x ≡ 0 → (y ≡ 1 → s ≡ signed t (pos 1))
    → (y ≢ 1 → s ≡ pos 0) → s ≡ w
kept_last w s x y t k e one more = grind (arith, jacobi-zero, jacobi-zero_one, signed-zero)
