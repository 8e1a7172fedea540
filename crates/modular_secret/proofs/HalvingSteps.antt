-- What a step keeps of a pair, and what is read off the last one.
use Rattle.std.proofs.Common.{◌≡◌, ◌≢◌, ℕ, Bool, true, false, not, zero, suc, ◌+◌, ◌*◌, ◌/◌, ◌%◌, ◌^◌, ◌==◌}
use Rattle.std.proofs.Common.{◌<◌, ◌≤◌, sym, ap, ◌∙◌, refl, arith, subst}
use Rattle.std.proofs.Math.Nat.{mul-le-mul_right, pow-suc, pow-zero, mod_self, mod-eq_of_lt}
use Rattle.std.proofs.Math.Nat.{add-mul-mod_self_left}
use Rattle.std.proofs.lemmas.Bool.Decides.{nat_tests}
use Rattle.modular_word.specs.Congruence.{Congruent}
use Rattle.modular_word.specs.Inverses.{IsInverse}
use Rattle.modular_word.proofs.Congruence.{mod_of_eq, mod_refl, mod_sym, mod_trans, mod_add, mod_mul, residue_of}
use Rattle.modular_word.proofs.Divisors.{divides_sum, divides_product, remainder_of_multiple_is_zero}
use Rattle.modular_word.proofs.Divisors.{Coprime-from_IsInverse}
use Rattle.modular_prim.specs.Differences.{CongruentBySign, IsDifferencePair}
use Rattle.modular_prim.proofs.DifferenceSteps.{scaled_by_sign, difference_congruent_by_sign}
use Rattle.modular_secret.specs.Halvings.{HaveDigits, IsHalvedPair}

-- ---- signs
-- a congruent number in the place of the second
congruent_second : (m : ℕ) (s : Bool) (p q q' : ℕ) → Congruent m q' q → CongruentBySign m s p q
    → CongruentBySign m s p q'
congruent_second m true p q q' e h = mod_trans (mod_add (mod_refl p) e) h
congruent_second m false p q q' e h = mod_trans h (mod_sym e)

twice_turned : (s : Bool) → not (not s) ≡ s
twice_turned true = refl
twice_turned false = refl

-- ---- a step before the halving
pub record Ready (m x k digits d y f g : ℕ) (s : Bool) : Type 0 where
  pub even : d % 2 ≡ 0
  pub odd : y % 2 ≡ 1
  pub whole : 0 < d → d * g + y * f ≡ m
  pub above_factor : 0 < f
  pub below_factor : g < m
  pub above : CongruentBySign m s (d * 2 ^ k) (f * x)
  pub below : CongruentBySign m (not s) (y * 2 ^ k) (g * x)
  pub common : (n : ℕ) → d % n ≡ 0 → y % n ≡ 0 → (m % n ≡ 0) × (x % n ≡ 0)
  pub few : 0 < d → HaveDigits d y digits

pub ready_even : (base m x k n a b u v o t : ℕ) → IsHalvedPair base m x k n a b u v o t → a % 2 ≡ 0
    → Ready m x k n a b u v (t % 2 == 1)
ready_even base m x k n a b u v o t p e = grind arith

-- the difference of two odd numbers, the first being the greater one
halved_pair_of_difference : (m x k n a b u v d : ℕ) (s : Bool) → d + b ≡ a → a % 2 ≡ 1 → b % 2 ≡ 1 → a * v + b * u ≡ m
    → 0 < u + v → v < m
    → CongruentBySign m s (a * 2 ^ k) (u * x) → CongruentBySign m (not s) (b * 2 ^ k) (v * x)
    → ((n : ℕ) → a % n ≡ 0 → b % n ≡ 0 → (m % n ≡ 0) × (x % n ≡ 0)) → HaveDigits a b n
    → Ready m x k n d b (u + v) v s
halved_pair_of_difference m x k n a b u v d s e ea eb w us vm above below common few =
    let scaled_difference : d * 2 ^ k + b * 2 ^ k ≡ a * 2 ^ k =
    (let r : d * 2 ^ k + b * 2 ^ k ≡ (d + b) * 2 ^ k = omega arith in r) ∙ ap (λ n. n * 2 ^ k) e in
    let factors : (u + v) * x ≡ u * x + v * x = omega arith in
    let g : (d + b) * v ≡ a * v = ap (λ n. n * v) e in
    record {
      even = omega arith;
      odd = eb;
      whole = omega arith;
      above_factor = us;
      below_factor = vm;
      above =
          grind (arith, difference_congruent_by_sign);
      below = below;
      common = λ c i j. common c (ap (λ n. n % c) (sym e) ∙ divides_sum c _ _ i j) j;
      few = grind arith;
    }

pub ready_above : (base m x k n a b u v o t d : ℕ) → IsHalvedPair base m x k n a b u v o t → a % 2 ≡ 1 → d + b ≡ a
    → Ready m x k n d b (u + v) v (t % 2 == 1)
ready_above base m x k n a b u v o t d p ea e =
    halved_pair_of_difference _ _ _ _ _ _ _ _ _ (t % 2 == 1) e ea p.below_odd (p.whole (omega arith))
    (omega (arith, p.above_factor)) p.below_factor p.above p.below p.common (p.few (omega arith))

-- the factor of the smaller number is below the modulus
pub factor_below : (m a b u v : ℕ) → a * v + b * u ≡ m → a % 2 ≡ 1 → a < b → v < m → u < m
factor_below m a b u v w ea l vm = grind (arith, mul-le-mul_right)

pub ready_below : (base m x k n a b u v o t d : ℕ) → IsHalvedPair base m x k n a b u v o t → a % 2 ≡ 1 → a < b
    → d + a ≡ b
    → Ready m x k n d a (u + v) u (not (t % 2 == 1))
ready_below base m x k n a b u v o t d p ea l e =
    let w = p.whole (omega arith) in
    let few = p.few (omega arith) in
    let r = halved_pair_of_difference _ _ _ _ _ _ _ _ _ (not (t % 2 == 1)) e p.below_odd ea (omega (arith, w))
    (omega (arith, p.above_factor)) (factor_below _ _ _ _ _ w ea l p.below_factor) p.below
    (subst (λ c. CongruentBySign m c (a * 2 ^ k) (u * x)) (sym (twice_turned _)) p.above)
    (λ c i j. p.common c j i)
    (record {
      first = few.second;
      second = few.first;
      first_fits = few.second_fits;
      second_fits = few.first_fits;
      total = omega (arith, few.total);
    }) in
    subst (λ f. Ready m x k n d a f u (not (t % 2 == 1))) (omega arith) r

-- a sum of the factors of two positive numbers fits
pub factor_sum_below_base : (base m a b u v : ℕ) → a * v + b * u ≡ m → a % 2 ≡ 1 → b % 2 ≡ 1 → m < base → u + v < base
factor_sum_below_base base m a b u v w ea eb fits = grind (arith, mul-le-mul_right)

-- ---- the halving
half_digits : (d y i j n h : ℕ) → 0 < h → h * 2 ≡ d → d < 2 ^ i → y < 2 ^ j → i + j ≡ n + 1 → HaveDigits h y n
half_digits d y zero j n h some e first second total = let z : 2 ^ 0 ≡ 1 = pow-zero 2 in absurd (omega arith)
half_digits d y (suc i) j n h some e first second total = grind (arith, pow-suc)

pub ready_halved : (base m x k n d y f g h v o t : ℕ) (s : Bool) → Ready m x k (n + 1) d y f g s → h ≡ d / 2
    → v ≡ (2 * g) % m → (h % 2 ≡ 1 → o + 1 ≡ base) → (h % 2 ≡ 0 → o ≡ 0) → (t % 2 == 1) ≡ s
    → IsHalvedPair base m x (k + 1) n h y f v o t
ready_halved base m x k n d y f g h v o t s p eh ev all none sign =
    let double : h * 2 ≡ d = omega (arith, p.even) in
    let power : 2 ^ (k + 1) ≡ 2 ^ k * 2 = ap (λ c. 2 ^ c) (let r : k + 1 ≡ suc k = omega arith in r) ∙ pow-suc _ _ in
    let numbers : h * 2 ^ (k + 1) ≡ d * 2 ^ k =
    ap (λ c. h * c) power ∙ (let r : h * (2 ^ k * 2) ≡ h * 2 * 2 ^ k = omega arith in r) ∙ ap (λ c. c * 2 ^ k) double in
    let smaller : y * 2 ^ (k + 1) ≡ y * 2 ^ k * 2 = ap (λ c. y * c) power ∙ omega arith in
    let factors : Congruent m (v * x) (g * x * 2) = mod_trans
    (mod_mul (mod_trans (mod_of_eq ev) (residue_of _)) (mod_refl _)) (mod_of_eq (omega arith)) in
    let kept = congruent_second _ _ _ _ _ factors (scaled_by_sign _ (not s) (y * 2 ^ k) _ _ p.below) in
    record {
      below_odd = p.odd;
      mask_all = all;
      mask_none = none;
      whole = λ some.
          let most : 2 * g ≤ d * g = mul-le-mul_right _ (let r : 2 ≤ d = omega arith in r) in
          let one : 1 * f ≤ y * f = mul-le-mul_right _ (let r : 1 ≤ y = omega (arith, p.odd) in r) in
          let w = p.whole (let r : 0 < d = omega arith in r) in
          let exact : v ≡ 2 * g = ev ∙ mod-eq_of_lt (let r : 2 * g < m = omega (arith, p.above_factor) in r) in
          let product : h * v ≡ d * g =
          ap (λ c. h * c) exact ∙ (let r : h * (2 * g) ≡ h * 2 * g = omega arith in r) ∙ ap (λ c. c * g) double in
          omega (arith, product, w);
      above_factor = p.above_factor;
      below_factor = omega arith;
      above = rw (sign, numbers) p.above;
      below = rw (sign, smaller) kept;
      common = grind (arith, divides_product);
      few = grind (arith, half_digits);
    }

-- a turn changes the sign
pub odd_flips : (t t' : ℕ) → t' % 2 ≡ (t + 1) % 2 → (t' % 2 == 1) ≡ not (t % 2 == 1)
odd_flips t t' e = grind (arith, nat_tests)

-- ---- the first and the last pair
pub start_is_halved_pair : (base m x w a b u v o t : ℕ) → m % 2 ≡ 1 → x < 2 ^ w → m < 2 ^ w → a ≡ x → b ≡ m → u ≡ 1
    → v ≡ 0
    → (x % 2 ≡ 1 → o + 1 ≡ base) → (x % 2 ≡ 0 → o ≡ 0) → t ≡ 0 → IsHalvedPair base m x 0 (2 * w) a b u v o t
start_is_halved_pair base m x w a b u v o t odd xf mf ea eb eu ev all none et =
    grind (arith, mod_of_eq, pow-zero, add-mul-mod_self_left)

-- with one digit left, the first number is 0
ended_at : (a b i j : ℕ) → b % 2 ≡ 1 → a < 2 ^ i → b < 2 ^ j → i + j ≡ 1 → a ≡ 0
ended_at a b zero j odd first second total = let z : 2 ^ 0 ≡ 1 = pow-zero 2 in omega arith
ended_at a b (suc i) j odd first second total = grind (arith, pow-zero)

pub above_is_zero_at_end : (base m x k a b u v o t : ℕ) → IsHalvedPair base m x k 1 a b u v o t → a ≡ 0
above_is_zero_at_end base m x k a b u v o t p = grind (arith, ended_at)

-- where the other number isn't 1, there is no inverse
pub last_value_excludes_inverse : (base m x k a b u v o t y : ℕ) → IsHalvedPair base m x k 1 a b u v o t → b ≢ 1
    → IsInverse m x y → ⊥
last_value_excludes_inverse base m x k a b u v o t y p h i =
    let zero : a ≡ b * 0 = omega (arith, above_is_zero_at_end _ _ _ _ _ _ _ _ _ _ p) in
    h ((Coprime-from_IsInverse _ _ _ i).only_one b (p.common b (remainder_of_multiple_is_zero _ _ _ zero)
    (mod_self _)).1
    (p.common b (remainder_of_multiple_is_zero _ _ _ zero) (mod_self _)).0)

multiple_of_modulus : (m : ℕ) (s : Bool) (p x : ℕ) → p ≡ 0 → CongruentBySign m s p (m * x)
multiple_of_modulus m true p x e = grind (arith, add-mul-mod_self_left)
multiple_of_modulus m false p x e =
    let none : 0 + m * x ≡ m * x = omega arith in
    record { same = ap (λ c. c % m) e ∙ sym (add-mul-mod_self_left _ _ _) ∙ ap (λ c. c % m) none }

-- where it is 1, it is as if the factor of 0 were m
pub last_difference : (base m x k a b u v o t : ℕ) → IsHalvedPair base m x k 1 a b u v o t → b ≡ 1
    → IsDifferencePair m x b a v m k (not (t % 2 == 1))
last_difference base m x k a b u v o t p e =
    let zero = above_is_zero_at_end _ _ _ _ _ _ _ _ _ _ p in
    grind (arith, multiple_of_modulus)

-- the factor with its sign
pub last_sign : (m v w z t : ℕ) → (t % 2 ≡ 1 → w ≡ v) → (t % 2 ≡ 0 → w ≡ z) → Congruent m (z + v) 0
    → CongruentBySign m (not (t % 2 == 1)) w v
last_sign m v w z t plus minus opposite = grind (arith, nat_tests, mod_of_eq)

pub chosen_value_below_modulus : (m v w z t : ℕ) → (t % 2 ≡ 1 → w ≡ v) → (t % 2 ≡ 0 → w ≡ z) → v < m → z < m → w < m
chosen_value_below_modulus m v w z t plus minus vm zm = grind arith
