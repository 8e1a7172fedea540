-- Euler's criterion: over an odd prime n the power with exponent (n - 1) / 2 is congruent to the Jacobi symbol. The
-- products a * x of the half system are its numbers in another order, up to as many signs as the count says.
use Rattle.std.proofs.Common.{◌≡◌, ℕ, zero, suc, ◌+◌, ◌-◌, ◌*◌, ◌%◌, ◌/◌, ◌^◌, ◌<◌, cond, eqb, ℤ, pos}
use Rattle.std.proofs.Common.{negsuc, Option, Some, None, sym, ◌∙◌, ap, arith, ⊎_elim, inl, ◌⊎◌}
use Rattle.std.proofs.lemmas.Bool.Decides.{nat_tests}
use Rattle.std.proofs.lemmas.Bool.{cases_lt, cases_eq}
use Rattle.std.proofs.lemmas.Nat.{mod_below, mul-mod_first, mul-mod_second, pow-add}
use Rattle.std.proofs.Math.Nat.{mod-eq_of_lt, pow-zero, pow-suc, one-mul, add-mul-mod_self_left, zero-mod, mod_self}
use Rattle.modular_word.specs.Divisors.{Coprime}
use Rattle.modular_word.specs.Residues.{residue}
use Rattle.modular_word.specs.Sums.{sum_to}
use Rattle.modular_word.proofs.Congruence.{same_product}
use Rattle.modular_word.proofs.Divisors.{divisor_below, Coprime-product}
use Rattle.modular_word.proofs.Powers.{pow-one}
use Rattle.modular_word.proofs.Sums.{sum_to-zero, sum_to-suc}
use Rattle.modular_symbols.specs.Jacobi.{half_system_count, jacobi}
use Rattle.modular_symbols.specs.Legendre.{classed_power}
use Rattle.modular_symbols.specs.Primes.{IsPrime}
use Rattle.modular_symbols.proofs.HalfSystem.{above, distance}
use Rattle.modular_symbols.proofs.HalfSystem.{half_system_count-sum, half_system_permuted, equal_remainders}
use Rattle.modular_symbols.proofs.JacobiLaws.{jacobi-residue, jacobi-coprime, jacobi-shared, sign-even, sign-odd}
use Rattle.modular_symbols.proofs.RangeProducts.{product_to, product_to-zero, product_to-suc}
use Rattle.modular_symbols.proofs.RangeProducts.{product_to-times, product_to-constant, product_to-permuted}
use Rattle.modular_symbols.proofs.ResidueProducts.{residue_below}

-- ---- the powers of n - 1, which is congruent to -1
pub square_of_last : (n k : ℕ) → n ≡ k + 2 → (n - 1) * (n - 1) ≡ 1 + n * k
square_of_last n k s =
    let u : n - 1 ≡ k + 1 = omega arith in
    let t = ap (λ v. v * k) s in
    ap (λ v. v * v) u ∙ omega arith

pub last_times_last : (n v : ℕ) → 1 < n → v % n ≡ n - 1 → (v * (n - 1)) % n ≡ 1
last_times_last n v l e =
    sym (mul-mod_first v (n - 1) n) ∙ ap (λ w. (w * (n - 1)) % n) e
    ∙ ap (λ w. w % n) (square_of_last n (n - 2) (omega arith)) ∙ add-mul-mod_self_left 1 n (n - 2) ∙ mod-eq_of_lt l

one_times_last : (n v : ℕ) → 1 < n → v % n ≡ 1 → (v * (n - 1)) % n ≡ n - 1
one_times_last n v l e =
    sym (mul-mod_first _ _ _) ∙ ap (λ w. (w * (n - 1)) % n) e ∙ ap (λ w. w % n) (one-mul _) ∙ mod-eq_of_lt (omega arith)

pub powers_of_last : (n k : ℕ) → 1 < n
    → ((k % 2 ≡ 0) × ((n - 1) ^ k % n ≡ 1)) ⊎ ((k % 2 ≡ 1) × ((n - 1) ^ k % n ≡ n - 1))
powers_of_last n zero l = inl (omega arith, ap (λ v. v % n) (pow-zero (n - 1)) ∙ mod-eq_of_lt l)
powers_of_last n (suc k) l = search (arith, pow-suc, one_times_last, last_times_last, powers_of_last n k l)

-- ---- a number is its distance from the nearest multiple of n, times -1 where it lies above the half system
last_times_rest : (n r k : ℕ) → n ≡ r + k + 1 → (n - 1) * (n - r) ≡ r + n * k
last_times_rest n r k s =
    let w : n - r ≡ k + 1 = omega arith in
    let t = ap (λ v. v * k) s in
    ap (λ v. v * (n - r)) (omega arith) ∙ ap (λ v. (r + k) * v) w ∙ omega arith

minus_rest : (n r : ℕ) → r < n → ((n - 1) * (n - r)) % n ≡ r
minus_rest n r h =
    ap (λ w. w % n) (last_times_rest _ _ (n - r - 1) (omega arith)) ∙ add-mul-mod_self_left _ _ (n - r - 1)
    ∙ mod-eq_of_lt h

signed_distance : (n v : ℕ) → 0 < n → v % n ≡ ((n - 1) ^ above n v * distance n v) % n
unfolding above distance
signed_distance n v p = grind (arith, nat_tests, pow-one, minus_rest, pow-zero, mod-eq_of_lt)

-- ---- the product over the half system
signed_product : (n a k : ℕ) → 0 < n
    → product_to (λ x. a * x) k % n
    ≡ ((n - 1) ^ sum_to (λ x. above n (a * x)) k * product_to (λ x. distance n (a * x)) k) % n
signed_product n a zero p = search (arith, product_to-zero, sum_to-zero, distance, pow-zero)
signed_product n a (suc k) p =
    let v : ℕ = a * suc k in
    let t : ((n - 1) ^ (sum_to (λ x. above n (a * x)) k)) * (product_to (λ x. distance n (a * x)) k)
    * (((n - 1) ^ above n v) * distance n v) ≡ ((n - 1) ^ (sum_to (λ x. above n (a * x)) k)) * ((n - 1) ^ above n v)
    * ((product_to (λ x. distance n (a * x)) k) * distance n v) = omega arith in
    rw (
      product_to-suc (λ x. a * x) k,
      sum_to-suc (λ x. above n (a * x)) k,
      product_to-suc (λ x. distance n (a * x)) k,
      pow-add (n - 1) (sum_to (λ x. above n (a * x)) k) (above n v),
      ← t,
    )
    (search (arith, same_product, product_to, distance, signed_distance, signed_product n a k p))

-- ---- numbers below a prime are coprime to it
pub below_coprime : (n x : ℕ) → IsPrime n → 0 < x → x < n → Coprime x n
below_coprime n x u p l = search (arith, divisor_below, cases_lt)

factorial_coprime : (n k : ℕ) → IsPrime n → k < n → Coprime (product_to (λ x. x) k) n
factorial_coprime n zero u l = grind (arith, product_to-zero, below_coprime)
factorial_coprime n (suc k) u l =
    grind (arith, product_to-suc, Coprime-product, below_coprime, factorial_coprime n k u (omega arith))

-- a coprime factor cancels
pub cancel_below : (n c u v : ℕ) → Coprime c n → u < n → v < n → (c * u) % n ≡ (c * v) % n → u ≡ v
cancel_below n c u v k h l e = search (arith, equal_remainders, cases_lt)

cancel_factor : (n c u v : ℕ) → 0 < n → Coprime c n → (u * c) % n ≡ (v * c) % n → u % n ≡ v % n
cancel_factor n c u v p k e =
    cancel_below _ _ _ _ k (mod_below _ _ p) (mod_below _ _ p)
    (mul-mod_second _ _ _ ∙ ap (λ x. x % n) (omega arith) ∙ e ∙ sym (ap (λ x. x % n) (omega arith))
    ∙ sym (mul-mod_second _ _ _))

-- ---- the criterion
pub power_by_count : (n a : ℕ) → n % 2 ≡ 1 → IsPrime n → Coprime a n
    → a ^ ((n - 1) / 2) % n ≡ (n - 1) ^ half_system_count (pos a) n % n
power_by_count n a o u c =
    let h : ℕ = (n - 1) / 2 in
    cancel_factor n (product_to (λ x. x) h) (a ^ h) ((n - 1) ^ half_system_count (pos a) n) (omega arith)
    (factorial_coprime n h u (omega arith))
    (ap (λ x. x % n) (ap (λ x. x * (product_to (λ x. x) h)) (sym (product_to-constant a h))
    ∙ sym (product_to-times (λ x. a) (λ x. x) h))
    ∙ signed_product n a h (omega arith)
    ∙ ap (λ x. ((n - 1) ^ x * product_to (λ x. distance n (a * x)) h) % n) (sym (half_system_count-sum a n))
    ∙ ap (λ x. ((n - 1) ^ half_system_count (pos a) n * x) % n)
    (product_to-permuted (λ x. distance n (a * x)) (λ x. x) h (half_system_permuted n a o c)))

power_of_zero_is_zero : (k : ℕ) → 0 < k → 0 ^ k ≡ 0
power_of_zero_is_zero zero p = absurd (omega arith)
power_of_zero_is_zero (suc k) p = pow-suc 0 k ∙ omega arith

-- the class of p modulo n
abbrev class_of : ℕ → ℕ → Option ℤ
class_of n p =
    cond (eqb p 0) (Some (pos 0)) (cond (eqb p 1) (Some (pos 1)) (cond (eqb p (n - 1)) (Some (negsuc 0)) None))

-- over an odd prime the class of the power is the symbol
pub classed_power-jacobi : (a : ℤ) (n : ℕ) → n % 2 ≡ 1 → IsPrime n → classed_power a n ≡ Some (jacobi a n)
classed_power-jacobi a n o u =
    let r : ℕ = residue n a in
    let j = jacobi-residue a n (omega arith) in
    ⊎_elim
    (λ (e : r ≡ 0). search (arith, nat_tests, power_of_zero_is_zero, zero-mod, jacobi-shared, mod_self))
    (λ (z : r ≡ 0 → ⊥).
    let c = below_coprime n r u (omega arith) (residue_below n a (omega arith)) in
    search (arith, nat_tests, power_by_count, jacobi-coprime, sign-even, sign-odd, powers_of_last))
    (cases_eq r 0)
