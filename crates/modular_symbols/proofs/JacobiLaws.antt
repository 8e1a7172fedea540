-- The laws of the Jacobi symbol, from the count alone.
use Rattle.std.proofs.Common.{◌≡◌, ℕ, Bool, true, false, zero, suc, ◌+◌, ◌-◌, ◌*◌, ◌%◌, ◌/◌}
use Rattle.std.proofs.Common.{◌<◌, cond, eqb, ltb, ◌&&◌, ◌||◌, ℤ, pos, negsuc, ◌*ℤ◌, neg_ℤ}
use Rattle.std.proofs.Common.{nat_abs, sym, ◌∙◌, ap, arith, ⊎_elim, inl, inr, ◌≢◌, ◌⊎◌, ◌↔◌}
use Rattle.std.proofs.lemmas.Bool.Decides.{nat_tests}
use Rattle.std.proofs.lemmas.Bool.{cases_eq}
use Rattle.std.proofs.lemmas.Int.{ints}
use Rattle.std.proofs.lemmas.Nat.{mul-mod}
use Rattle.std.proofs.Math.Nat.{zero-mod, mod_self, mod-eq_of_lt}
use Rattle.modular_word.specs.Divisors.{Coprime, gcd}
use Rattle.modular_word.specs.Residues.{residue}
use Rattle.modular_word.specs.Sums.{sum_to}
use Rattle.modular_word.proofs.Divisors.{gcd_is_positive, divides_rest, divides_through, divisor_below}
use Rattle.modular_word.proofs.Divisors.{Coprime-left, Coprime-right, Coprime-product}
use Rattle.modular_word.proofs.Divisors.{Coprime-mod, Coprime-from_mod, gcd-from_Coprime, Coprime-from_gcd}
use Rattle.modular_word.proofs.Sums.{sum_to-same, sum_to-zero}
use Rattle.modular_symbols.specs.Jacobi.{half_system_count, sign, jacobi}
use Rattle.modular_symbols.proofs.HalfSystem.{above, half_system_count-sum}
use Rattle.modular_symbols.proofs.HalfSystem.{half_system_count-residue, half_system_count-product}
use Rattle.modular_symbols.proofs.Lattice.{counts_reciprocal}
use Rattle.modular_symbols.proofs.ResidueProducts.{residue_opposite, residue-product}

-- ---- the symbol, by whether a and n are coprime
pub jacobi-coprime : (a : ℤ) (n : ℕ) → 0 < n → Coprime (nat_abs a) n → jacobi a n ≡ sign (half_system_count a n)
unfolding jacobi
jacobi-coprime a n p c = let e = gcd-from_Coprime (nat_abs a) n p c in grind (arith, nat_tests)

pub jacobi-shared : (a : ℤ) (n : ℕ) → 0 < n → (Coprime (nat_abs a) n → ⊥) → jacobi a n ≡ pos 0
unfolding jacobi
jacobi-shared a n p c = grind (arith, Coprime-from_gcd, nat_tests)

pub coprime_or_not : (a n : ℕ) → 0 < n → Coprime a n ⊎ (Coprime a n → ⊥)
coprime_or_not a n p =
    ⊎_elim
    (λ (e : gcd a n ≡ 1). inl (Coprime-from_gcd _ _ p e))
    (λ (z : gcd a n ≡ 1 → ⊥). inr (λ c. z (gcd-from_Coprime _ _ p c))) (cases_eq (gcd a n) _)

-- ---- signs
pub sign-even : (i : ℕ) → i % 2 ≡ 0 → sign i ≡ pos 1
sign-even i e = grind (arith, nat_tests)

pub sign-odd : (i : ℕ) → i % 2 ≡ 1 → sign i ≡ negsuc 0
sign-odd i e = grind (arith, nat_tests)

pub even_or_odd : (i : ℕ) → (i % 2 ≡ 0) ⊎ (i % 2 ≡ 1)
even_or_odd i = grind arith

pub sign-parity : (i : ℕ) (odd : Bool) → i % 2 ≡ cond odd 1 0 → sign i ≡ cond odd (negsuc 0) (pos 1)
sign-parity i true e = sign-odd i e
sign-parity i false e = sign-even i e

pub sign-sum : (i j k : ℕ) → k % 2 ≡ (i + j) % 2 → sign k ≡ sign i *ℤ sign j
sign-sum i j k e = search (arith, sign-even, sign-odd, even_or_odd)

pub one_times : (z : ℤ) → pos 1 *ℤ z ≡ z
one_times z = omega (arith, ints)

pub minus_one_times : (z : ℤ) → negsuc 0 *ℤ z ≡ neg_ℤ z
minus_one_times z = omega (arith, ints)

pub zero_times : (z : ℤ) → pos 0 *ℤ z ≡ pos 0
zero_times z = omega (arith, ints)

pub times_zero : (z : ℤ) → z *ℤ pos 0 ≡ pos 0
times_zero z = omega (arith, ints)

-- ---- the residue alone decides
Coprime-residue : (a : ℤ) (n : ℕ) → 0 < n → Coprime (nat_abs a) n → Coprime (residue n a) n
Coprime-residue (pos a) n p c = Coprime-mod a n c
Coprime-residue (negsuc a) n p c =
    record {
      only_one = λ d g h.
          c.only_one d (divides_rest d _ (suc a) g (divides_through d _ _ h (residue_opposite n a p))) h;
    }

Coprime-from_residue : (a : ℤ) (n : ℕ) → 0 < n → Coprime (residue n a) n → Coprime (nat_abs a) n
Coprime-from_residue (pos a) n p c = Coprime-from_mod a n c
Coprime-from_residue (negsuc a) n p c =
    record {
      only_one = λ d g h. c.only_one d
          (divides_rest d (suc a) _ g (ap (λ v. v % d) (omega arith)
          ∙ divides_through d _ ((residue n (negsuc a)) + suc a) h (residue_opposite _ _ p)))
          h;
    }

pub jacobi-residue : (a : ℤ) (n : ℕ) → 0 < n → jacobi a n ≡ jacobi (pos (residue n a)) n
jacobi-residue a n p =
    ⊎_elim
    (λ (c : Coprime (nat_abs a) n). search (arith, jacobi-coprime, half_system_count-residue, Coprime-residue))
    (search (arith, jacobi-shared, Coprime-from_residue)) (coprime_or_not (nat_abs a) _ p)

-- ---- products
jacobi-natural_product : (a b n : ℕ) → n % 2 ≡ 1 → jacobi (pos (a * b)) n ≡ jacobi (pos a) n *ℤ jacobi (pos b) n
jacobi-natural_product a b n o =
    let p : 0 < n = omega arith in
    ⊎_elim
    (λ (c : Coprime a n).
    ⊎_elim
    (λ (k : Coprime b n).
    let w = Coprime-product _ _ _ p c k in
    search (arith, jacobi-coprime, sign-sum, half_system_count-product))
    (λ (z : Coprime b n → ⊥).
    search (arith, jacobi-shared, Coprime-right, times_zero))
    (coprime_or_not _ _ p))
    (λ (z : Coprime a n → ⊥).
    search (arith, jacobi-shared, Coprime-left, zero_times))
    (coprime_or_not _ _ p)

pub jacobi-product : (a b : ℤ) (n : ℕ) → n % 2 ≡ 1 → jacobi (a *ℤ b) n ≡ jacobi a n *ℤ jacobi b n
jacobi-product a b n o =
    let p : 0 < n = omega arith in
    jacobi-residue (a *ℤ b) _ p ∙ ap (λ v. jacobi (pos v) n) (residue-product _ _ _ p)
    ∙ sym (jacobi-residue (pos ((residue n a) * (residue n b))) _ p) ∙ jacobi-natural_product _ _ _ o
    ∙ sym (ap (λ v. v *ℤ jacobi (pos (residue n b)) n) (jacobi-residue _ _ p))
    ∙ sym (ap (λ v. jacobi a n *ℤ v) (jacobi-residue _ _ p))

-- ---- the symbol of 2
-- how many of 1, .., k have a double above h
doubles_above : (h k : ℕ) → sum_to (λ x. cond (ltb h (2 * x)) 1 0) k ≡ k - h / 2
unfolding sum_to
doubles_above h zero = omega arith
doubles_above h (suc k) = grind (arith, nat_tests, doubles_above h k)

half_system_count-two : (n : ℕ) → n % 2 ≡ 1 → half_system_count (pos 2) n ≡ (n - 1) / 2 - (n - 1) / 2 / 2
unfolding above
half_system_count-two n o =
    half_system_count-sum _ _ ∙ sum_to-same (λ x. above n (2 * x)) (λ x. cond (ltb ((n - 1) / 2) (2 * x)) 1 0) _
    (λ x p q. search (arith, mod-eq_of_lt)) ∙ doubles_above _ _

Coprime-two : (n : ℕ) → n % 2 ≡ 1 → Coprime 2 n
Coprime-two n o = search (arith, divisor_below, cases_eq)

pub jacobi-two_kept : (n : ℕ) → n % 2 ≡ 1 → (n % 8 ≡ 1) ⊎ (n % 8 ≡ 7) → jacobi (pos 2) n ≡ pos 1
jacobi-two_kept n o h = grind (arith, jacobi-coprime, Coprime-two, sign-even, half_system_count-two)

pub jacobi-two_turned : (n : ℕ) → n % 2 ≡ 1 → n % 8 ≢ 1 → n % 8 ≢ 7 → jacobi (pos 2) n ≡ negsuc 0
jacobi-two_turned n o h k = search (arith, jacobi-coprime, Coprime-two, sign-odd, half_system_count-two)

pub jacobi-two : (n : ℕ) → n % 2 ≡ 1 → jacobi (pos 2) n ≡ cond (eqb (n % 8) 1 || eqb (n % 8) 7) (pos 1) (negsuc 0)
jacobi-two n o = let k = jacobi-two_kept n o in let t = jacobi-two_turned n o in grind (arith, nat_tests, k, t)

-- ---- reciprocity
pub product_parity : (i j : ℕ) → (i * j) % 2 ≡ (i % 2) * (j % 2)
product_parity i j = search (arith, zero-mod, mul-mod, even_or_odd)

-- the number of pairs is odd exactly where both numbers are 3 modulo 4
pub pairs-parity : (m n : ℕ) → m % 2 ≡ 1 → n % 2 ≡ 1
    → ((n - 1) / 2 * ((m - 1) / 2)) % 2 ≡ cond (eqb (m % 4) 3 && eqb (n % 4) 3) 1 0
pairs-parity m n k o = grind (arith, nat_tests, product_parity ((n - 1) / 2) ((m - 1) / 2))

-- the product of the two symbols is -1 exactly where both numbers are 3 modulo 4
pub jacobi-reciprocal : (m n : ℕ) → m % 2 ≡ 1 → n % 2 ≡ 1 → Coprime m n
    → jacobi (pos m) n *ℤ jacobi (pos n) m ≡ cond (eqb (m % 4) 3 && eqb (n % 4) 3) (negsuc 0) (pos 1)
jacobi-reciprocal m n k o c =
    search (arith, sign-parity ((n - 1) / 2 * ((m - 1) / 2)), pairs-parity, jacobi-coprime, sign-sum, counts_reciprocal)

-- ---- the symbol of 0
pub jacobi-zero_one : jacobi (pos 0) 1 ≡ pos 1
jacobi-zero_one = search (arith, jacobi-coprime, divisor_below, half_system_count-sum, sum_to-zero)

pub jacobi-zero : (n : ℕ) → 1 < n → jacobi (pos 0) n ≡ pos 0
jacobi-zero n l =
    jacobi-shared (pos 0) n (omega arith) (λ c. let e = c.only_one n (zero-mod n) (mod_self n) in omega arith)

-- ---- the values
pub sign-values : (i : ℕ) → (sign i ≡ pos 1) ⊎ (sign i ≡ negsuc 0)
sign-values i = search (arith, sign-even, sign-odd, even_or_odd)

pub jacobi-values : (a : ℤ) (n : ℕ) → (jacobi a n ≡ pos 1) ⊎ ((jacobi a n ≡ negsuc 0) ⊎ (jacobi a n ≡ pos 0))
unfolding jacobi
jacobi-values a n = grind (arith, nat_tests, sign-values (half_system_count a n))

-- the symbol is 0 exactly where there is a common divisor above 1
pub jacobi-zero_exactly : (a : ℤ) (n : ℕ) → 0 < n → (jacobi a n ≡ pos 0) ↔ (1 < gcd (nat_abs a) n)
jacobi-zero_exactly a n p =
    let one = gcd-from_Coprime (nat_abs a) n p in
    grind (arith, gcd_is_positive, sign-values, jacobi-coprime, Coprime-from_gcd, cases_eq, jacobi-shared)
