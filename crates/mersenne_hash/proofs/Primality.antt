-- A certificate that a number is prime (Pocklington, "The determination of the prime or composite nature of large
-- numbers by Fermat's theorem", 1914; Crandall and Pomerance, Prime Numbers, section 4.1).
use Rattle.std.proofs.Common.{◌≡◌, ℕ, zero, suc, ◌+◌, ◌-◌, ◌*◌, ◌/◌, ◌%◌, ◌^◌, ◌<◌, inl, inr}
use Rattle.std.proofs.Common.{arith, ap, sym, ◌∙◌, refl, lit<}
use Rattle.std.proofs.Math.Nat.{pow-suc, mod-mod_of_dvd, dvd-mul_left, dvd-mul_right, zero-mod}
use Rattle.std.proofs.Math.Nat.{div-add-mod, mod-eq_of_lt, mul-le-mul_left}
use Rattle.std.proofs.lemmas.Nat.Gcd.{dvd_of_mod-eq-zero, mod-eq-zero_of_dvd}
use Rattle.std.proofs.Common.{Bool, true, ◌&&◌, ◌||◌, nat_lt}
use Rattle.std.proofs.lemmas.Bool.{cases_eq, cases_lt, and_parts, or_cases, ltb-true}
use Rattle.num_modular.specs.Congruence.{Congruent}
use Rattle.num_modular.specs.Inverses.{HasInverse}
use Rattle.num_modular.specs.NumberLaws.{mod_of_eq, mod_refl, mod_sym, mod_trans, mod_mul, mod_pow, mod_add_cancel}
use Rattle.num_modular.specs.NumberLaws.{one-pow, pow-mul}
use Rattle.num_modular.specs.Primes.{IsPrime}
use Rattle.num_modular.specs.SystemLaws.{spread, gathered}
use Rattle.num_modular.specs.NumberLaws.{divides_through}

-- a number without a prime divisor below k has no divisor there
no_divisor_below : (n k : ℕ) → ((r : ℕ) → IsPrime r → r < k → n % r ≡ 0 → ⊥) → (d : ℕ) → 1 < d → d < k → n % d ≡ 0 → ⊥
no_divisor_below n zero none d above l e = absurd (omega (arith, l))
no_divisor_below n (suc k) none d above l e =
    none d record {
      above_one = above;
      undivided = λ f f_above below t.
          no_divisor_below n k (λ r prime b. none r prime (omega (arith, b))) f f_above (omega (arith, below, l))
          (divides_through f d n t e);
    } l e

-- so it is a prime, if its square is above the number
pub no_small : (n k : ℕ) → 1 < n → n < k * k → ((r : ℕ) → IsPrime r → r < k → n % r ≡ 0 → ⊥) → IsPrime n
no_small n k h square none = record {
  above_one = h;
  undivided = λ d above below e.
      let q = n / d in
      let whole : d * q ≡ n = omega (arith, div-add-mod n d, e) in
      let divides : n % q ≡ 0 = ap (λ k. k % q) (sym whole) ∙ mod-eq-zero_of_dvd q (dvd-mul_left q d) in
      let big : 1 < q = grind arith in
      elim (cases_lt d k) [
        | inl b ↦ no_divisor_below n k none d above b e
        | inr b ↦ elim (cases_lt q k) [
          | inl l ↦ no_divisor_below n k none q big l divides
          | inr l ↦ absurd (omega (arith, mul-le-mul_left q b, mul-le-mul_left k l, whole, square))
        ]
      ];
}

-- powers of a number that is congruent to 1
power_congruent_to_one : {d x : ℕ} (k : ℕ) → Congruent d x 1 → Congruent d (x ^ k) 1
power_congruent_to_one k h = mod_trans (mod_pow k h) (mod_of_eq (one-pow k))

-- congruent modulo a divisor
modulo_divisor : (n r x y : ℕ) → n % r ≡ 0 → x % n ≡ y % n → Congruent r x y
modulo_divisor n r x y e same = record {
  same = sym (mod-mod_of_dvd r x (dvd_of_mod-eq-zero r e)) ∙ ap (λ k. k % r) same
      ∙ mod-mod_of_dvd r y (dvd_of_mod-eq-zero r e);
}

-- what the certificate has for a prime q: a number a + 1 whose power of q is 1 modulo n, and the inverses of both
pub record Witness (n q a c : ℕ) : Type 0 where
  pub power : (a + 1) ^ q % n ≡ 1 % n
  pub unit : ((a + 1) * (a + 1) ^ (q - 1)) % n ≡ 1 % n
  pub apart : (a * c) % n ≡ 1 % n

abbrev pub Fermat : Type 0
Fermat = (a p : ℕ) → IsPrime p → (a % p ≡ 0 → ⊥) → a ^ (p - 1) % p ≡ 1

abbrev pub Inverts : Type 0
Inverts = (a p : ℕ) → IsPrime p → (a % p ≡ 0 → ⊥) → HasInverse p a

-- what has an inverse modulo n isn't 0 modulo a divisor above 1
unit_nonzero_modulo_divisor : (n r x c : ℕ) → 1 < r → n % r ≡ 0 → (x * c) % n ≡ 1 % n → Congruent r x 0 → ⊥
unit_nonzero_modulo_divisor n r x c above e one none =
    let nothing : 0 * c ≡ 0 = omega arith in
    let zero = mod_trans (mod_mul none (mod_refl c)) (mod_of_eq nothing) in
    let zero_one = mod_trans (mod_sym zero) (modulo_divisor n r _ _ e one) in
    search (arith, zero_one.same, mod-eq_of_lt, zero-mod)

-- so q divides r - 1 for each prime divisor r
pub one_less : (n q a c r : ℕ) → Fermat → Inverts → Witness n q a c → IsPrime q → IsPrime r → n % r ≡ 0
    → (r - 1) % q ≡ 0
one_less n q a c r fermat inverts w q_prime r_prime e = elim (cases_eq ((r - 1) % q) 0) [
  | inl h ↦ h
  | inr ne ↦
      let b = a + 1 in
      let (i, inverse) = inverts (r - 1) q q_prime ne in
      let k = (r - 1) * i / q in
      let last = inverse.one ∙ mod-eq_of_lt q_prime.above_one in
      let whole : (r - 1) * i ≡ suc (q * k) = omega (arith, div-add-mod ((r - 1) * i) q, last) in
      let unit = λ (h : b % r ≡ 0).
      unit_nonzero_modulo_divisor n r b _ r_prime.above_one e w.unit (record { same = h ∙ sym (zero-mod r) }) in
      let by_fermat : Congruent r (b ^ ((r - 1) * i)) 1 = mod_trans (mod_of_eq (pow-mul b (r - 1) i))
      (power_congruent_to_one i (record { same = fermat b r r_prime unit ∙ sym (mod-eq_of_lt r_prime.above_one) })) in
      let alone : 1 * b ≡ b = omega arith in
      let by_power : Congruent r (b ^ ((r - 1) * i)) b =
      mod_trans (mod_of_eq (ap (λ j. b ^ j) whole ∙ pow-suc b (q * k) ∙ ap (λ j. j * b) (pow-mul b q k)))
      (mod_trans (mod_mul (power_congruent_to_one k (modulo_divisor n r (b ^ q) 1 e w.power)) (mod_refl b))
      (mod_of_eq alone)) in
      let one : Congruent r (a + 1) (0 + 1) = mod_trans (mod_sym by_power) by_fermat in
      absurd (unit_nonzero_modulo_divisor n r a c r_prime.above_one e w.apart (mod_add_cancel 1 one))
]

-- divisors of which one has an inverse modulo the other
product_divides : (n a q y : ℕ) → (a * y) % q ≡ 1 % q → n % a ≡ 0 → n % q ≡ 0 → n % (a * q) ≡ 0
product_divides n a q y one e f =
    let k = n / a in
    let whole : a * k ≡ n = omega (arith, div-add-mod n a, e) in
    let same : q * (n / q) ≡ n = omega (arith, div-add-mod n q, f) in
    let times = ap (λ i. i * k) (spread q (a * y) 1 one) in
    let turned = ap (λ i. y * i) (whole ∙ sym same) in
    let rest : k % q ≡ 0 =
    gathered q k 0 (a * y / q * k) (y * (n / q) + 1 / q * k) (omega (arith, times, turned)) ∙ zero-mod q in
    let part : q * (k / q) ≡ k = omega (arith, div-add-mod k q, rest) in
    let all : n ≡ a * q * (k / q) = sym whole ∙ ap (λ i. a * i) (sym part) ∙ omega arith in
    ap (λ i. i % (a * q)) all ∙ mod-eq-zero_of_dvd (a * q) (dvd-mul_right (a * q) (k / q))

-- a small prime, by trial
abbrev leaves_remainders : ℕ → ℕ → Bool
leaves_remainders q zero = true
leaves_remainders q (suc d) = leaves_remainders q d && (nat_lt d 2 || nat_lt 0 (q % d))

remainder_left : (q k : ℕ) → leaves_remainders q k ≡ true → (d : ℕ) → 1 < d → d < k → q % d ≡ 0 → ⊥
remainder_left q zero h d above below e = absurd (omega (arith, below))
remainder_left q (suc k) h d above below e =
    let parts = and_parts (leaves_remainders q k) (nat_lt k 2 || nat_lt 0 (q % k)) h in
    grind (arith, remainder_left q k parts.0 d above, parts.1, or_cases, ltb-true)

prime_by_trial : (q : ℕ) → 1 < q → leaves_remainders q q ≡ true → IsPrime q
prime_by_trial q above h = record { above_one = above; undivided = remainder_left q q h }

-- 31, 151, 331 and 1321 divide 2^61 - 2, and their product is above the root of 2^61 - 1
pub modulus_prime : Fermat → Inverts → IsPrime 2305843009213693951
modulus_prime fermat inverts =
    no_small 2305843009213693951 2046771932 (lit< tt) (lit< tt)
    (λ r prime below e.
    let first = one_less 2305843009213693951 1321 234060095121088421 828993518632009434 r fermat inverts
    record { power = refl; unit = refl; apart = refl } (prime_by_trial 1321 (lit< tt) refl) prime e in
    let second = one_less 2305843009213693951 331 1491285494954315878 1881382712785867029 r fermat inverts
    record { power = refl; unit = refl; apart = refl } (prime_by_trial 331 (lit< tt) refl) prime e in
    let third = one_less 2305843009213693951 151 2211238755008147948 1896004468068488480 r fermat inverts
    record { power = refl; unit = refl; apart = refl } (prime_by_trial 151 (lit< tt) refl) prime e in
    let fourth = one_less 2305843009213693951 31 484083891529811866 42235654463646013 r fermat inverts
    record { power = refl; unit = refl; apart = refl } (prime_by_trial 31 (lit< tt) refl) prime e in
    let all : (r - 1) % 2046771931 ≡ 0 =
    product_divides (r - 1) 66024901 31 2 refl
    (product_divides (r - 1) 437251 151 104 refl (product_divides (r - 1) 1321 331 110 refl first second) third) fourth
    in
    absurd (omega (arith, all, below, prime.above_one)))
