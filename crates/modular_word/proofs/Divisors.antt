-- Common divisors: Euclid's lemma, and where an inverse exists. That d divides n is written n % d ≡ 0.
use Rattle.std.proofs.Common.{◌↔◌, ◌≢◌, ◌≡◌, ℕ, zero, suc, ◌+◌, ◌-◌, ◌*◌, ◌%◌, ◌/◌, ◌<◌}
use Rattle.std.proofs.Common.{◌≤◌, cond, eqb, ◌&&◌, sym, ◌∙◌, ap, refl, arith, ⊎_elim}
use Rattle.std.proofs.lemmas.Bool.Decides.{nat_tests}
use Rattle.std.proofs.lemmas.Bool.{cases_lt}
use Rattle.std.proofs.Math.Nat.{mul-mod_right, mod_self, mod-zero, mod-one, mod-lt}
use Rattle.std.proofs.Math.Nat.{mod-eq_of_lt, add-mul-mod_self_left}
use Rattle.std.proofs.lemmas.Nat.{mul-mod_first, mul-mod_second}
use Rattle.modular_word.specs.Divisors.{Coprime, IsGreatestCommonDivisor, gcd_up_to, gcd}
use Rattle.modular_word.specs.Inverses.{IsInverse, HasInverse}
use Rattle.modular_word.proofs.Congruence.{same_product}

-- a divisor and its multiples
pub multiple_of : (d n : ℕ) → n % d ≡ 0 → n ≡ d * (n / d)
multiple_of d n h = omega arith

pub remainder_of_multiple_is_zero : (d n k : ℕ) → n ≡ d * k → n % d ≡ 0
remainder_of_multiple_is_zero d n k e = ap (λ v. v % d) e ∙ mul-mod_right d k

-- what divides two numbers divides their sum, and the rest of a sum
pub divides_sum : (d a b : ℕ) → a % d ≡ 0 → b % d ≡ 0 → (a + b) % d ≡ 0
divides_sum d a b g h = remainder_of_multiple_is_zero d (a + b) (a / d + b / d) (omega arith)

absurd_small : (d i j a b : ℕ) → a ≡ d * i → a + b ≡ d * j → j < i → b ≡ d * (j - i)
absurd_small d i j a b g h l = grind arith

rest_is_multiple : (d i j a b : ℕ) → a ≡ d * i → a + b ≡ d * j → b ≡ d * (j - i)
rest_is_multiple d i j a b g h =
    ⊎_elim
    (λ (l : j < i). absurd_small _ _ _ _ _ g h l)
    (λ (l : i ≤ j). let e : j ≡ i + (j - i) = omega arith in let f = ap (λ v. d * v) e in omega arith) (cases_lt _ _)

pub divides_rest : (d a b : ℕ) → a % d ≡ 0 → (a + b) % d ≡ 0 → b % d ≡ 0
divides_rest d a b g h =
    remainder_of_multiple_is_zero _ _ ((a + b) / d - a / d) (rest_is_multiple _ _ ((a + b) / d) _ _ (multiple_of _ _ g)
    (multiple_of _ _ h))

-- what divides a number divides its multiples
pub divides_product : (d a k : ℕ) → a % d ≡ 0 → (a * k) % d ≡ 0
divides_product d a k g = remainder_of_multiple_is_zero _ _ (a / d * k) (ap (λ v. v * k) (multiple_of _ _ g)
    ∙ omega arith)

pub divides_through : (d e n : ℕ) → e % d ≡ 0 → n % e ≡ 0 → n % d ≡ 0
divides_through d e n g h = grind (arith, multiple_of, divides_product)

positive_divisor : (d n : ℕ) → 0 < n → n % d ≡ 0 → 0 < d
positive_divisor zero n p h = let e = mod-zero n in absurd (omega arith)
positive_divisor (suc d) n p h = omega arith

-- a divisor of a positive number is positive and at most it
pub divisor_below : (d n : ℕ) → 0 < n → n % d ≡ 0 → (0 < d) × (d ≤ n)
divisor_below d n p h = grind (arith, mod-eq_of_lt, positive_divisor)

-- being coprime is symmetric
pub Coprime-swap : (a n : ℕ) → Coprime a n → Coprime n a
Coprime-swap a n c = record { only_one = λ d g h. c.only_one d h g }

-- what divides n divides a exactly where it divides the remainder of a by n
pub divides_mod : (d a n : ℕ) → n % d ≡ 0 → (a % n) % d ≡ 0 → a % d ≡ 0
divides_mod d a n h g = grind (arith, divides_sum, divides_product)

pub mod_divides : (d a n : ℕ) → n % d ≡ 0 → a % d ≡ 0 → (a % n) % d ≡ 0
mod_divides d a n h g =
    divides_rest _ (n * (a / n)) _ (divides_product _ _ _ h)
    (let e : n * (a / n) + a % n ≡ a = omega arith in ap (λ v. v % d) e ∙ g)

-- being coprime to n depends on the residue alone
pub Coprime-mod : (a n : ℕ) → Coprime a n → Coprime (a % n) n
Coprime-mod a n c = record { only_one = λ d g h. c.only_one d (divides_mod d a n h g) h }

pub Coprime-from_mod : (a n : ℕ) → Coprime (a % n) n → Coprime a n
Coprime-from_mod a n c = record { only_one = λ d g h. c.only_one d (mod_divides d a n h g) h }

-- from a multiple of n that is 1 modulo a, a multiple of a that is 1 modulo n
turned_unit : (a n y : ℕ) → 1 < a → 0 < n → (n * y) % a ≡ 1 → (a * ((n - 1) * (n * y / a))) % n ≡ 1 % n
turned_unit a n y ha hn e =
    let p = n - 1 in
    let q = n * y / a in
    let k : p * (a * q + 1) ≡ p * (n * y) = ap (λ v. p * v) (omega arith) in
    let s : a * (p * q) + n * 1 ≡ 1 + n * (p * y) = omega arith in
    sym (add-mul-mod_self_left (a * (p * q)) _ _) ∙ ap (λ v. v % n) s ∙ add-mul-mod_self_left _ _ _

inverse_of_modulus : (a n y : ℕ) → 0 < a → 0 < n → (n * y) % a ≡ 1 % a → (x : ℕ) × ((a * x) % n ≡ 1 % n)
inverse_of_modulus a n y ha hn e =
    ⊎_elim
    (λ (l : 1 < a). ((n - 1) * (n * y / a), turned_unit _ _ _ l hn (e ∙ mod-eq_of_lt l)))
    (λ (l : a ≤ 1). (1, ap (λ v. v % n) (let f : a * 1 ≡ 1 = omega arith in f))) (cases_lt _ _)

-- a multiple of a that is 1 modulo n, along Euclid's algorithm
unit_within : (fuel a n : ℕ) → n ≤ fuel → 0 < n → Coprime a n → (x : ℕ) × ((a * x) % n ≡ 1 % n)
unit_within zero a n l p c = absurd (omega arith)
unit_within (suc fuel) a n l p c =
    ⊎_elim
    (λ (h : 0 < a % n).
    let i = unit_within fuel n (a % n) (omega arith) h (Coprime-swap _ _ (Coprime-mod _ _ c)) in
    let t = inverse_of_modulus _ _ i.0 h p i.1 in
    (t.0, sym (mul-mod_first _ t.0 _) ∙ t.1))
    (λ (h : a % n ≤ 0).
    grind (arith, mod_self, mod-one))
    (cases_lt _ _)

-- a number coprime to n has an inverse modulo n
pub HasInverse-from_Coprime : (a n : ℕ) → 0 < n → Coprime a n → HasInverse n a
HasInverse-from_Coprime a n p c =
    let u = unit_within n a n (omega arith) p c in
    (u.0 % n, record { below = mod-lt u.0 p; one = mul-mod_second _ u.0 _ ∙ u.1 })

-- and no other number has
pub Coprime-from_IsInverse : (a n x : ℕ) → IsInverse n a x → Coprime a n
Coprime-from_IsInverse a n x i =
    record {
      only_one = λ d g h.
          let one : (1 % n) % d ≡ 0 = ap (λ v. v % d) (sym i.one) ∙ mod_divides d _ _ h (divides_product d _ _ g) in
          let b = divisor_below d _ (let z : 0 < 1 = omega arith in z) (divides_mod d _ _ h one) in
          omega arith;
    }

-- Euclid's lemma: a number coprime to n is cancelled from a multiple of n
pub coprime_cancel : (a n x : ℕ) → 0 < n → Coprime a n → (a * x) % n ≡ 0 → x % n ≡ 0
coprime_cancel a n x p c h =
    let u = unit_within n a n (omega arith) p c in
    let o : x * 1 ≡ x = omega arith in
    sym (ap (λ v. v % n) o) ∙ sym (same_product _ _ _ (a * u.0) _ refl u.1) ∙ ap (λ v. v % n) (omega arith)
    ∙ divides_product _ _ u.0 h

-- factors of a number coprime to n are, and products of such numbers
pub Coprime-left : (a b n : ℕ) → Coprime (a * b) n → Coprime a n
Coprime-left a b n c = record { only_one = λ d g h. c.only_one d (divides_product d a b g) h }

pub Coprime-right : (a b n : ℕ) → Coprime (a * b) n → Coprime b n
Coprime-right a b n c =
    record {
      only_one = λ d g h.
          let e : a * b ≡ b * a = omega arith in
          c.only_one d (ap (λ v. v % d) e ∙ divides_product d _ _ g) h;
    }

pub Coprime-product : (a b n : ℕ) → 0 < n → Coprime a n → Coprime b n → Coprime (a * b) n
Coprime-product a b n p c k =
    record {
      only_one = λ d g h. k.only_one d
          (coprime_cancel _ d _ (positive_divisor d _ p h)
          (record { only_one = λ e u v. c.only_one e u (divides_through e d _ v h) })
          g)
          h;
    }

-- what the greatest common divisor up to k is
gcd_step : (a n k d g : ℕ) → (d ≤ k → a % d ≡ 0 → n % d ≡ 0 → d ≤ g) → d ≤ suc k → a % d ≡ 0 → n % d ≡ 0 → g ≤ k
    → d ≤ cond (eqb (a % suc k) 0 && eqb (n % suc k) 0) (suc k) g
gcd_step a n k d g i l u v b = grind (arith, nat_tests)

gcd_up_to-le : (a n k : ℕ) → gcd_up_to a n k ≤ k
unfolding gcd_up_to
gcd_up_to-le a n zero = omega arith
gcd_up_to-le a n (suc k) = let i = gcd_up_to-le a n k in grind (arith, i)

gcd_greatest : (a n k d : ℕ) → d ≤ k → a % d ≡ 0 → n % d ≡ 0 → d ≤ gcd_up_to a n k
unfolding gcd_up_to
gcd_greatest a n zero d l u v = omega arith
gcd_greatest a n (suc k) d l u v =
    gcd_step a n k d (gcd_up_to a n k) (λ m u v. gcd_greatest a n k d m u v) l u v (gcd_up_to-le a n k)

gcd_common_step : (a n k g : ℕ) → (0 < g → (a % g ≡ 0) × (n % g ≡ 0))
    → (r : ℕ) → r ≡ cond (eqb (a % suc k) 0 && eqb (n % suc k) 0) (suc k) g
    → 0 < r → (a % r ≡ 0) × (n % r ≡ 0)
gcd_common_step a n k g i r e p = grind (arith, nat_tests)

gcd_common : (a n k : ℕ) → 0 < gcd_up_to a n k → (a % gcd_up_to a n k ≡ 0) × (n % gcd_up_to a n k ≡ 0)
unfolding gcd_up_to
gcd_common a n zero p = absurd (omega arith)
gcd_common a n (suc k) p = gcd_common_step a n k (gcd_up_to a n k) (gcd_common a n k) (gcd_up_to a n (suc k)) refl p

-- coprime numbers are those whose greatest common divisor is 1
pub gcd-from_Coprime : (a n : ℕ) → 0 < n → Coprime a n → gcd a n ≡ 1
gcd-from_Coprime a n p c =
    let b = gcd_common _ _ _ (gcd_greatest _ _ _ _ p (mod-one _) (mod-one _)) in
    c.only_one (gcd_up_to a n n) b.0 b.1

pub Coprime-from_gcd : (a n : ℕ) → 0 < n → gcd a n ≡ 1 → Coprime a n
Coprime-from_gcd a n p e = grind (arith, divisor_below, gcd_greatest)

-- `gcd` is the greatest common divisor
pub gcd_is : (a n : ℕ) → 0 < n → IsGreatestCommonDivisor a n (gcd a n)
gcd_is a n p =
    let b = gcd_common a n n (gcd_greatest a n n 1 p (mod-one a) (mod-one n)) in
    grind (arith, gcd_greatest, divisor_below)

pub gcd_is_positive : (a n : ℕ) → 0 < n → 0 < gcd a n
gcd_is_positive a n p = gcd_greatest a n n 1 p (mod-one a) (mod-one n)

-- an inverse exists exactly where the greatest common divisor is 1
pub HasInverse-gcd : (a n : ℕ) → 0 < n → HasInverse n a ↔ (gcd a n ≡ 1)
HasInverse-gcd a n p = grind (
  arith,
  gcd-from_Coprime,
  Coprime-from_IsInverse,
  HasInverse-from_Coprime,
  Coprime-from_gcd,
)

-- one more number tried
pub gcd_up_to-hit : (a n k : ℕ) → a % suc k ≡ 0 → n % suc k ≡ 0 → gcd_up_to a n (suc k) ≡ suc k
unfolding gcd_up_to
gcd_up_to-hit a n k u v = grind (arith, nat_tests)

pub gcd_up_to-miss : (a n k : ℕ) → (a % suc k ≡ 0 → n % suc k ≢ 0) → gcd_up_to a n (suc k) ≡ gcd_up_to a n k
unfolding gcd_up_to
gcd_up_to-miss a n k u = grind (arith, nat_tests)
