-- The count of the half system, one number after the other.
use Rattle.std.proofs.Common.{◌≡◌, ℕ, suc, ◌+◌, ◌-◌, ◌*◌, ◌/◌, ◌%◌, ◌<◌, ◌≤◌, ◌≢◌, Bool, true}
use Rattle.std.proofs.Common.{false, not, cond, ltb, ℤ, pos, negsuc, ◌*ℤ◌, nat_abs}
use Rattle.std.proofs.Common.{Option, Some, None, is_some, zero, IsTrue, ◌↔◌, refl, arith}
use Rattle.std.proofs.Math.Bool.{beq}
use Rattle.std.proofs.lemmas.Bool.{cases_lt, false≢true}
use Rattle.std.proofs.lemmas.Bool.Decides.{nat_tests}
use Rattle.modular_word.specs.Divisors.{gcd}
use Rattle.modular_word.specs.Inverses.{IsInversion}
use Rattle.modular_word.specs.Residues.{residue}
use Rattle.modular_word.specs.Sums.{sum_to}
use Rattle.modular_word.proofs.Divisors.{HasInverse-gcd}
use Rattle.modular_word.proofs.Sums.{sum_to-zero, sum_to-suc}
use Rattle.modular_symbols.specs.Jacobi.{half_system_count, jacobi}
use Rattle.modular_symbols.specs.Kronecker.{signed}
use Rattle.modular_symbols.proofs.JacobiLaws.{sign-parity}
use Rattle.modular_symbols.proofs.ResidueProducts.{residue-multiple}

-- 1 where the residue of z * x lies above the half system of n, else 0
abbrev pub above : ℤ → ℕ → ℕ → ℕ
above z n x = cond (ltb ((n - 1) / 2) (residue n (z *ℤ pos x))) 1 0

-- x is in the half system, and `odd` is the parity of the count up to x
pub record CountedTo (z : ℤ) (n x : ℕ) (odd : Bool) : Type 0 where
  pub within : x ≤ (n - 1) / 2
  pub parity : sum_to (above z n) x % 2 ≡ cond odd 1 0

pub counted_none : (z : ℤ) (n x : ℕ) → x ≡ 0 → CountedTo z n x false
counted_none z n x e = search (arith, sum_to-zero)

above_is : (z : ℤ) (n x : ℕ) (b : Bool) → IsTrue b ↔ ((n - 1) / 2 < residue n (z *ℤ pos x)) → above z n x ≡ cond b 1 0
above_is z n x true is = grind (arith, nat_tests)
above_is z n x false is = search (arith, cases_lt, false≢true, nat_tests)

next_parity : (s t : ℕ) (odd b : Bool) → s % 2 ≡ cond odd 1 0 → t ≡ cond b 1 0 → (s + t) % 2 ≡ cond (not (beq odd b)) 1
    0
next_parity s t odd b e f = grind (arith, nat_tests)

-- the next number y, by the numbers that the loop computes: half of n, the residue s of z and that of s * y
pub record Next (z : ℤ) (n x one y half s r : ℕ) : Type 0 where
  pub odd_modulus : n % 2 ≡ 1
  pub half_is : half ≡ n / 2
  pub one_is : one ≡ 1
  pub before : x < half
  pub follows : y ≡ x + one
  pub residue_is : s ≡ residue n z
  pub product : r ≡ (s * y) % n

pub counted_next : {z : ℤ} {n x one y half s r : ℕ} {odd b : Bool} → Next z n x one y half s r
    → CountedTo z n x odd → IsTrue b ↔ (half < r) → CountedTo z n y (not (beq odd b))
counted_next {z = z} {n = n} {x = x} {y = y} {r = r} {odd = odd} {b = b} t c is =
    let e : y ≡ suc x = omega arith in
    let f : r ≡ residue n (z *ℤ pos y) = search (arith, residue-multiple) in
    record { within = omega arith; parity = search (arith, sum_to-suc, next_parity, above_is) }

-- the symbol at the end of the count
pub counted_all : (z : ℤ) (n x half : ℕ) (odd : Bool) → CountedTo z n x odd → n % 2 ≡ 1 → half ≡ n / 2 → half ≤ x
    → gcd (nat_abs z) n ≡ 1 → jacobi z n ≡ cond odd (negsuc 0) (pos 1)
unfolding jacobi half_system_count
counted_all z n x half odd c o f h g = search (arith, sign-parity)

pub shared_divisor : (z : ℤ) (n : ℕ) → gcd (nat_abs z) n ≢ 1 → jacobi z n ≡ pos 0
unfolding jacobi
shared_divisor z n h = grind (arith, nat_tests)

pub nat_abs-signed : (minus : Bool) (a : ℕ) → nat_abs (signed minus (pos a)) ≡ a
nat_abs-signed true zero = refl
nat_abs-signed true (suc a) = refl
nat_abs-signed false a = refl

-- the greatest common divisor, by the result of an inversion
pub no_inverse : {A : Type 0} (number : A → ℕ) (m a : ℕ) (minus : Bool) (found : Option A) → 0 < m
    → IsInversion number m a found
    → is_some found ≡ false → gcd (nat_abs (signed minus (pos a))) m ≢ 1
no_inverse number m a minus None p none e = grind (arith, HasInverse-gcd, nat_abs-signed)
no_inverse number m a minus (Some x) p i e = absurd (cc)

pub with_inverse : {A : Type 0} (number : A → ℕ) (m a : ℕ) (minus : Bool) (found : Option A) → 0 < m
    → IsInversion number m a found
    → is_some found ≡ true → gcd (nat_abs (signed minus (pos a))) m ≡ 1
with_inverse number m a minus None p none e = absurd (cc)
with_inverse number m a minus (Some x) p i e = grind (arith, HasInverse-gcd, nat_abs-signed)
