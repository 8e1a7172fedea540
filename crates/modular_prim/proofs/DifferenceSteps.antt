-- What the loop of differences keeps of a pair, and what is read off its last one.
use Rattle.std.proofs.Common.{◌≡◌, ◌≢◌, ℕ, Bool, true, false, not, zero, suc, ◌+◌, ◌-◌, ◌*◌, ◌/◌, ◌%◌, ◌^◌}
use Rattle.std.proofs.Common.{◌<◌, ◌≤◌, Option, Some, None, sym, ap, ◌∙◌, refl, arith}
use Rattle.std.proofs.Math.Nat.{mul-le-mul_left, mul-le-mul_right, pow-le-pow_right, pow-suc, pow-zero, mod_self}
use Rattle.std.proofs.Math.Nat.{add-mul-mod_self_left, div-add-mod, mod-one}
use Rattle.std.proofs.lemmas.Nat.{pow_pos, pow-add, mul-pow, trailing_le, mul-mod_first}
use Rattle.std.specs.Int.Count.{count_trailing_zeros}
use mathlib.Core.Bool.{beq}
use lib.Count.{under}
use Rattle.modular_word.specs.Congruence.{Congruent}
use Rattle.modular_word.specs.Inverses.{IsInverse, IsInversion}
use Rattle.modular_word.specs.Reduction.{IsReduction}
use Rattle.modular_word.proofs.Congruence.{mod_of_eq, mod_refl, mod_sym, mod_trans, mod_add, mod_mul, mod_pow}
use Rattle.modular_word.proofs.Congruence.{mod_add_cancel, mod_mul_cancel}
use Rattle.modular_word.proofs.Divisors.{remainder_of_multiple_is_zero, divides_sum, divides_rest, divides_product}
use Rattle.modular_word.proofs.Divisors.{multiple_of}
use Rattle.modular_word.proofs.Divisors.{Coprime-from_IsInverse}
use Rattle.modular_word.proofs.Powers.{one-pow}
use Rattle.modular_prim.specs.Differences.{CongruentBySign, IsDifferencePair, PairFits}

-- ---- the trailing zeros
-- the power of two that they make divides the number
zeros_step : (n k t : ℕ) → (n / 2) % 2 ^ t ≡ 0 → (r : ℕ) → r ≡ n % 2 → n % 2 ^ under r t ≡ 0
zeros_step n k t h zero e =
    let q = n / 2 / 2 ^ t in
    let scaled : 2 ^ suc t * q ≡ 2 ^ t * 2 * q = ap (λ v. v * q) (pow-suc _ _) in
    remainder_of_multiple_is_zero (2 ^ suc t) n q (omega arith)
zeros_step n k t h (suc r) e = ap (λ v. n % v) (pow-zero 2) ∙ mod-one n

pub zeros_divide : (w n : ℕ) → n % 2 ^ count_trailing_zeros w n ≡ 0
unfolding count_trailing_zeros
zeros_divide zero n = ap (λ v. n % v) (pow-zero 2) ∙ mod-one n
zeros_divide (suc w) n = zeros_step n w (count_trailing_zeros w (n / 2)) (zeros_divide w (n / 2)) (n % 2) refl

-- a power of at most the width divides the base
base_divided : (w t : ℕ) → t ≤ w → 2 ^ w % 2 ^ t ≡ 0
base_divided w t h = remainder_of_multiple_is_zero _ _ _ (ap (λ v. 2 ^ v) (let s : w ≡ t + (w - t) = omega arith in s)
    ∙ pow-add 2 t (w - t))

-- v is the difference of a and b modulo the base, 2 ^ w: its zeros are those of the difference d
zeros_of_wrapped : (w base v a b t : ℕ) → base ≡ 2 ^ w → (v + b) % base ≡ a → t ≡ count_trailing_zeros w v
    → (v % 2 ^ t ≡ 0) × ((base * ((v + b) / base)) % 2 ^ t ≡ 0) × (base * ((v + b) / base) + a ≡ v + b)
zeros_of_wrapped w base v a b t eb ev et =
    grind (arith, trailing_le, div-add-mod, zeros_divide, divides_product, base_divided)

pub zeros_above : (w base v a b d t : ℕ) → base ≡ 2 ^ w → (v + b) % base ≡ a → t ≡ count_trailing_zeros w v
    → d + b ≡ a → d % 2 ^ t ≡ 0
zeros_above w base v a b d t eb ev et e =
    let z = zeros_of_wrapped _ _ _ _ _ _ eb ev et in
    divides_rest _ (base * ((v + b) / base)) _ z.1 (ap (λ k. k % 2 ^ t) (omega (arith, z.2)) ∙ z.0)

pub zeros_below : (w base v a b d t : ℕ) → base ≡ 2 ^ w → (v + b) % base ≡ a → t ≡ count_trailing_zeros w v
    → d + a ≡ b → d % 2 ^ t ≡ 0
zeros_below w base v a b d t eb ev et e =
    let z = zeros_of_wrapped _ _ _ _ _ _ eb ev et in
    divides_rest _ _ _ z.0 (ap (λ k. k % 2 ^ t) (omega (arith, z.2)) ∙ z.1)

-- a positive number without a power of two that divides it
pub record Without (d t o : ℕ) : Type 0 where
  pub whole : o * 2 ^ t ≡ d
  pub some : 0 < o
  pub within : o ≤ d

pub Without-of_quotient : (d t o : ℕ) → 0 < d → d % 2 ^ t ≡ 0 → o ≡ d / 2 ^ t → Without d t o
Without-of_quotient d t o p h e = grind (arith, multiple_of, mul-le-mul_left, pow_pos, mul-le-mul_right)

-- the power is one of fewer bits than the number has
pub removed_twos_below_width : (w d t o : ℕ) → Without d t o → d < 2 ^ w → t < w
removed_twos_below_width w d t o h l = grind (arith, pow-le-pow_right, mul-le-mul_right)

-- ---- signs
double_negation_keeps_congruence : (m : ℕ) (s : Bool) (p q : ℕ) → CongruentBySign m s p q
    → CongruentBySign m (not (not s)) p q
double_negation_keeps_congruence m true p q h = h
double_negation_keeps_congruence m false p q h = h

pub scaled_by_sign : (m : ℕ) (s : Bool) (p q c : ℕ) → CongruentBySign m s p q → CongruentBySign m s (p * c) (q * c)
scaled_by_sign m true p q c h =
    let z : 0 * c ≡ 0 = omega arith in
    mod_trans (mod_of_eq (omega arith)) (mod_trans (mod_mul h (mod_refl _)) (mod_of_eq z))
scaled_by_sign m false p q c h = mod_mul h (mod_refl c)

pub difference_congruent_by_sign : (m : ℕ) (s : Bool) (d b a p q : ℕ) → d + b ≡ a → CongruentBySign m s a p
    → CongruentBySign m (not s) b q
    → CongruentBySign m s d (p + q)
difference_congruent_by_sign m true d b a p q e h l =
    let g : d + p + b ≡ a + p = omega arith in
    mod_trans (mod_of_eq (omega arith)) (mod_trans (mod_add (mod_refl _) (mod_sym l)) (mod_trans (mod_of_eq g) h))
difference_congruent_by_sign m false d b a p q e h l =
    let g : d + (b + q) ≡ a + q = omega arith in
    mod_trans (mod_of_eq (omega arith)) (mod_trans (mod_add (mod_refl _) (mod_sym l))
    (mod_trans (mod_of_eq g) (mod_add h (mod_refl _))))

-- ---- a turn of the loop
-- the numbers change places
pub pair_turned : (m x a b u v k : ℕ) (s : Bool) → IsDifferencePair m x a b u v k s
    → IsDifferencePair m x b a v u k (not s)
pair_turned m x a b u v k s p = grind (arith, double_negation_keeps_congruence)

pub fits_turned : (base a b u v k : ℕ) → PairFits base a b u v k → PairFits base b a v u k
fits_turned base a b u v k f = omega arith

-- the difference without its twos takes the place of the greater number
factors_same : (a b u v d t o : ℕ) → d + b ≡ a → o * 2 ^ t ≡ d → o * (v * 2 ^ t) + b * (u + v) ≡ a * v + b * u
factors_same a b u v d t o e h =
    let f : o * 2 ^ t * v ≡ d * v = ap (λ n. n * v) h in
    grind arith

pub pair_next : (m x a b u v k d t o u' v' : ℕ) (s : Bool) → d + b ≡ a → Without d t o
    → u' ≡ u + v → v' ≡ v * 2 ^ t → IsDifferencePair m x a b u v k s → IsDifferencePair m x o b u' v' (k + t) s
pair_next m x a b u v k d t o u' v' s e h eu ev p =
    let eo : o * 2 ^ (k + t) ≡ d * 2 ^ k =
    ap (λ n. o * n) (pow-add _ _ _) ∙ (let r : o * (2 ^ k * 2 ^ t) ≡ o * 2 ^ t * 2 ^ k = omega arith in r)
    ∙ ap (λ n. n * 2 ^ k) h.whole in
    let ed : d * 2 ^ k + b * 2 ^ k ≡ a * 2 ^ k = grind arith in
    let ex : u' * x ≡ u * x + v * x = ap (λ n. n * x) eu ∙ omega arith in
    let eb : b * 2 ^ (k + t) ≡ b * 2 ^ k * 2 ^ t = ap (λ n. b * n) (pow-add _ _ _) ∙ omega arith in
    let ey : v' * x ≡ v * x * 2 ^ t = ap (λ n. n * x) ev ∙ omega arith in
    let sum = difference_congruent_by_sign _ _ (d * 2 ^ k) (b * 2 ^ k) (a * 2 ^ k) _ _ ed p.above p.below in
    record {
      whole = grind (arith, factors_same);
      above = rw (eo, ex) sum;
      below = rw (eb, ey) (scaled_by_sign _ (not s) (b * 2 ^ k) _ _ p.below);
      common = λ g i j.
          let id : d % g ≡ 0 = ap (λ n. n % g) (sym h.whole) ∙ divides_product g _ _ i in
          p.common g (ap (λ n. n % g) (sym e) ∙ divides_sum g _ _ id j) j;
    }

pub fits_next : (base a b u v k d t o u' v' : ℕ) → d + b ≡ a → Without d t o
    → u' ≡ u + v → v' ≡ v * 2 ^ t → PairFits base a b u v k → PairFits base o b u' v' (k + t)
fits_next base a b u v k d t o u' v' e h eu ev f =
    let grown : v * 1 ≤ v * 2 ^ t = mul-le-mul_left _ (pow_pos _) in
    let eo : o * b * 2 ^ (k + t) ≡ d * (b * 2 ^ k) =
    ap (λ n. o * b * n) (pow-add _ _ _) ∙ (let r : o * b * (2 ^ k * 2 ^ t) ≡ o * 2 ^ t * (b * 2 ^ k) = omega arith in r)
    ∙ ap (λ n. n * (b * 2 ^ k)) h.whole in
    let less : d * (b * 2 ^ k) ≤ a * (b * 2 ^ k) = mul-le-mul_right (b * 2 ^ k) (let r : d ≤ a = omega arith in r) in
    grind (arith, factors_same)

-- the start of a turn, a pair with its greater number first: its difference d, whose zeros are t, smaller number y and
-- this one's factor f
pub record Ordered (base a b u v k d y f t : ℕ) (s s' : Bool) : Type 0 where
  pub greater : ℕ
  pub factor : ℕ
  pub some : 0 < d
  pub below : d < base
  pub even : d % 2 ^ t ≡ 0
  pub whole : d + y ≡ greater
  pub sum : u + v ≡ factor + f
  pub fits : PairFits base greater y factor f k
  pub pair : (m x : ℕ) → IsDifferencePair m x a b u v k s → IsDifferencePair m x greater y factor f k s'

same_sign : (s l : Bool) → l ≡ false → s ≡ not (beq s l)
same_sign true false e = refl
same_sign false false e = refl
same_sign s true e = absurd (cc)

other_sign : (s l : Bool) → l ≡ true → not s ≡ not (beq s l)
other_sign true true e = refl
other_sign false true e = refl
other_sign s false e = absurd (cc)

pub ordered_above : (base a b u v k d y f t : ℕ) (s l : Bool) → PairFits base a b u v k → l ≡ false → a ≢ b → a < base
    → d + b ≡ a → d % 2 ^ t ≡ 0 → y ≡ b → f ≡ v → Ordered base a b u v k d y f t s (not (beq s l))
ordered_above base a b u v k d y f t s l h el differ fits e even ey ef = grind (arith, same_sign)

pub ordered_below : (base a b u v k d y f t : ℕ) (s l : Bool) → PairFits base a b u v k → l ≡ true → a ≢ b → b < base
    → d + a ≡ b → d % 2 ^ t ≡ 0 → y ≡ a → f ≡ u → Ordered base a b u v k d y f t s (not (beq s l))
ordered_below base a b u v k d y f t s l h el differ fits e even ey ef =
    grind (arith, fits_turned, other_sign, pair_turned)

-- the shift of a turn fits
pub shift_fits : (base a b u v k d t o : ℕ) → d + b ≡ a → Without d t o → PairFits base a b u v k → v * 2 ^ t < base
shift_fits base a b u v k d t o e h f =
    let n = fits_next _ _ _ _ _ _ _ _ _ _ (v * 2 ^ t) e h refl refl f in
    grind (arith, mul-le-mul_right)

-- the twos are fewer than two words have
pub few_twos : (w base a b u v k : ℕ) → base ≡ 2 ^ w → PairFits base a b u v k → k < w + w
few_twos w base a b u v k eb f =
    let double : 2 ^ (w + w) ≡ base * base = pow-add _ _ _ ∙ ap (λ n. n * 2 ^ w) (sym eb)
    ∙ ap (λ n. base * n) (sym eb) in
    grind (arith, pow-le-pow_right)

-- ---- the first and the last pair
pub start_is_difference_pair : (m x t o u v : ℕ) → Without x t o → u ≡ 1 → v ≡ 0 → IsDifferencePair m x o m u v t false
start_is_difference_pair m x t o u v h eu ev =
    let vx : v * x ≡ 0 * x = ap (λ n. n * x) ev in
    let below : m * 2 ^ t + v * x ≡ 0 + m * 2 ^ t = omega arith in
    grind (arith, mod_of_eq, add-mul-mod_self_left, divides_product)

pub first_fits : (base m x t o u v : ℕ) → Without x t o → u ≡ 1 → v ≡ 0 → x < m → m < base → PairFits base o m u v t
first_fits base m x t o u v h eu ev l b =
    let e : o * m * 2 ^ t ≡ x * m = grind arith in
    grind (arith, mul-le-mul_right, mul-le-mul_left)

-- where the numbers are equal, the factor of the one is a residue other than 0
pub last_factor : (base m x a b u v k : ℕ) (s : Bool) → IsDifferencePair m x a b u v k s → PairFits base a b u v k
    → a ≡ b
    → (0 < u) × (u < m)
last_factor base m x a b u v k s p f e = grind (arith, mul-le-mul_right)

-- their common value divides x and m, so where it isn't 1 there is no inverse
pub common_value_excludes_inverse : (m x a b u v k y : ℕ) (s : Bool) → IsDifferencePair m x a b u v k s → a ≡ b → a ≢ 1
    → IsInverse m x y → ⊥
common_value_excludes_inverse m x a b u v k y s p e h i =
    let c = p.common a (mod_self _) (ap (λ n. n % a) (sym e) ∙ mod_self _) in
    h ((Coprime-from_IsInverse _ _ _ i).only_one a c.1 c.0)

-- ---- powers of two modulo an odd number
unit_power : (m k : ℕ) → m % 2 ≡ 1 → Congruent m (2 ^ k * ((m + 1) / 2) ^ k) 1
unit_power m k o =
    let j = (m + 1) / 2 in
    let e : 2 * j ≡ 1 + m * 1 = omega arith in
    let one : Congruent m (2 * j) 1 = record { same = ap (λ n. n % m) e ∙ add-mul-mod_self_left _ _ _ } in
    mod_trans (mod_of_eq (sym (mul-pow _ j _))) (mod_trans (mod_pow _ one) (mod_of_eq (one-pow _)))

without_power : {m a b : ℕ} (k : ℕ) → m % 2 ≡ 1 → Congruent m (a * 2 ^ k) (b * 2 ^ k) → Congruent m a b
without_power {m} {a} {b} k o h = mod_mul_cancel (2 ^ k) (((m + 1) / 2) ^ k) (unit_power m k o) h

-- the factor with its sign
pub factor_minus : (m u w : ℕ) (s : Bool) → s ≡ true → w + u ≡ m → CongruentBySign m s w u
factor_minus m u w false e h = absurd (cc)
factor_minus m u w true e h =
    let f : w + u ≡ 0 + m * 1 = omega arith in
    record { same = ap (λ n. n % m) f ∙ add-mul-mod_self_left _ _ _ }

pub factor_plus : (m u w : ℕ) (s : Bool) → s ≡ false → w ≡ u → CongruentBySign m s w u
factor_plus m u w false e h = mod_of_eq h
factor_plus m u w true e h = absurd (cc)

factor_power : (m x u p w : ℕ) (s : Bool) → CongruentBySign m s p (u * x) → CongruentBySign m s w u
    → Congruent m (x * w) p
factor_power m x u p w true h f =
    let z : x * 0 ≡ 0 = omega arith in
    mod_add_cancel _ (mod_trans (mod_of_eq (omega arith)) (mod_trans (mod_mul (mod_refl _) f)
    (mod_trans (mod_of_eq z) (mod_sym h))))
factor_power m x u p w false h f = mod_trans (mod_mul (mod_refl _) f) (mod_trans (mod_of_eq (omega arith)) (mod_sym h))

-- where it is 1, the factor with its sign, without the twos, is the inverse
pub last_inverse : (m x a b u v k w y : ℕ) (s : Bool) → m % 2 ≡ 1 → IsDifferencePair m x a b u v k s → a ≡ 1
    → CongruentBySign m s w u → y < m → Congruent m (y * 2 ^ k) w → IsInverse m x y
last_inverse m x a b u v k w y s o p e f l h =
    let r : x * y * 2 ^ k ≡ x * (y * 2 ^ k) = omega arith in
    let product : Congruent m (x * w) (a * 2 ^ k) = factor_power _ _ _ (a * 2 ^ k) _ _ p.above f in
    let one : Congruent m (x * y) 1 = grind (arith, without_power, mod_trans, mod_of_eq, mod_mul, mod_refl) in
    record { below = l; one = one.same }

-- ---- the twos taken out
-- a reduction takes out as many as a word has bits
pub word_taken : (m base w r r' t z j x : ℕ) → base ≡ 2 ^ w → t ≡ r + base * z → z ≡ 0 → IsReduction base m t r'
    → Congruent m (r * 2 ^ j) x → Congruent m (r' * 2 ^ (w + j)) x
word_taken m base w r r' t z j x eb et ez h c =
    let e : r' * 2 ^ (w + j) ≡ r' * base * 2 ^ j = grind (arith, pow-add) in
    grind (arith, pow-add, mod_trans, mod_of_eq, mod_mul, mod_refl)

-- the last one, of a number times what is left up to a word
pub rest_taken : (m base w v r r' t k j x : ℕ) → m % 2 ≡ 1 → base ≡ 2 ^ w → k ≤ w → v ≡ w → t ≡ r * 2 ^ (v - k)
    → IsReduction base m t r' → Congruent m (r * 2 ^ j) x → Congruent m (r' * 2 ^ (k + j)) x
rest_taken m base w v r r' t k j x o eb l ev et h c =
    let p : base ≡ 2 ^ k * 2 ^ (w - k) = grind (arith, pow-add) in
    let e : r' * 2 ^ k * 2 ^ (w - k) ≡ r' * base = (omega arith) ∙ ap (λ n. r' * n) (sym p) in
    let g : Congruent m (r' * base) (r * 2 ^ (w - k)) = grind arith in
    mod_trans (mod_of_eq (ap (λ n. r' * n) (pow-add _ _ _)
    ∙ omega arith)) (mod_trans (mod_mul (without_power _ o (mod_trans (mod_of_eq e) g)) (mod_refl _)) c)

-- what is reduced is below the modulus times the base
pub shifted_factor_fits_reduction : (base m r t v k w : ℕ) → base ≡ 2 ^ w → v ≡ w → t ≡ r * 2 ^ (v - k) → r < m
    → t < base * m
shifted_factor_fits_reduction base m r t v k w eb ev et h =
    let p : 2 ^ (v - k) ≤ 2 ^ w = pow-le-pow_right {n = 2} (omega arith) (omega arith) in
    grind (arith, pow-le-pow_right, pow_pos, mul-le-mul_right, mul-le-mul_left)

-- ---- the number itself
-- a number has the inverse of its residue
pub inversion_of_residue : {T : Type 0} (number : T → ℕ) (m a x : ℕ) (found : Option T) → x ≡ a % m
    → IsInversion number m x found → IsInversion number m a found
inversion_of_residue number m a x None e h =
    λ y i. h y (record {
      below = i.below;
      one = ap (λ n. (n * y) % m) e ∙ mul-mod_first _ y _ ∙ i.one;
    })
inversion_of_residue number m a x (Some y) e h = grind (arith, mul-mod_first)
