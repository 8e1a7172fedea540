-- Newton's form: one coefficient more, its parts, its values at its points, and its coefficients as a polynomial.
use Rattle.ring_codes.proofs.Names.{◌≡◌, ◌≢◌, ◌+◌, ◌-◌, ◌*◌, ◌/◌, ◌%◌, ◌^◌, ◌<◌, ◌≤◌, ◌-ℤ◌, ◌∙◌, ◌↔◌, ℕ, zero, suc, pos}
use Rattle.ring_codes.proofs.Names.{ap, sym, arith, refl, inl, inr, mod-eq_of_lt, mod-lt, Bool, true, false, IsTrue}
use Rattle.ring_codes.proofs.Names.{Option, None, Some, is_some, zero-mod, cases_eq, cases_lt, ints, mul-mod_second}
use Rattle.ring_codes.proofs.Names.{Congruent, IsInverse, HasInverse, IsInversion, mod_of_eq, mod_refl, mod_sym}
use Rattle.ring_codes.proofs.Names.{mod_trans, mod_add, mod_mul, polynomial_at, HaveUnitDifferences, polynomial-none}
use Rattle.ring_codes.proofs.Names.{polynomial-first, polynomial-same, has_each, has_product, residue, difference}
use Rattle.ring_codes.proofs.Names.{inverse_mod, inverse_from_mod}
use Rattle.num_modular.specs.Products.{product_below}
use Rattle.num_modular.specs.Sums.{sum_below}
use Rattle.ring_codes.specs.Newton.{newton_form}
use Rattle.ring_codes.proofs.NearestWords.{with_multiple}
use Rattle.ring_codes.proofs.Congruences.{mod_of_combination, mod_times, mod_of_modulus, mod_of_residue}
use Rattle.ring_codes.proofs.Congruences.{mod_of_difference, mod_of_inverse}

pub form-none : (m a i : ℕ) (c x : ℕ → ℕ) → newton_form m c x a i 0 ≡ 0
unfolding newton_form
form-none m a i c x = refl

part_of_one : (m a i : ℕ) (c x : ℕ → ℕ) → newton_form m c x a i 1 ≡ c i
unfolding newton_form
part_of_one m a i c x = omega arith

-- equal coefficients
form-same : (m n i a : ℕ) (c d x : ℕ → ℕ) → ((l : ℕ) → l < i + n → c l ≡ d l)
    → newton_form m c x a i n ≡ newton_form m d x a i n
unfolding newton_form
form-same m zero i a c d x same = refl
form-same m (suc n) i a c d x same =
    let rest = form-same m n (suc i) a c d x (λ l b. same l (omega (arith, b))) in
    rw (same i (omega arith), rest) refl

-- the product of the differences of a from n points from number i on: its last factor, and those from number 0 on
pub differences : ℕ → (ℕ → ℕ) → ℕ → ℕ → ℕ → ℕ
differences m x a i zero = 1
differences m x a i (suc n) = residue m (pos a -ℤ pos (x i)) * differences m x a (suc i) n

differences-last : (m i n j a : ℕ) (x : ℕ → ℕ) → j ≡ i + n
    → differences m x a i (suc n) ≡ differences m x a i n * residue m (pos a -ℤ pos (x j))
unfolding differences
differences-last m i zero j a x is = let at : j ≡ i = omega (arith, is) in rw at (omega arith)
differences-last m i (suc n) j a x is =
    let rest = differences-last m (suc i) n j a x (omega (arith, is)) in
    omega (arith, ap (λ v. residue m (pos a -ℤ pos (x i)) * v) rest)

differences-below : (m n a : ℕ) (x : ℕ → ℕ)
    → differences m x a 0 n ≡ product_below n (λ j. residue m (pos a -ℤ pos (x j)))
unfolding differences product_below
differences-below m zero a x = refl
differences-below m (suc n) a x =
    differences-last m 0 n n a x (omega arith)
    ∙ ap (λ v. v * residue m (pos a -ℤ pos (x n))) (differences-below m n a x)

-- the first h coefficients and the k behind them
parts_joined : (m i h j k n a : ℕ) (c x : ℕ → ℕ) → j ≡ i + h → n ≡ h + k
    → newton_form m c x a i h + differences m x a i h * newton_form m c x a j k ≡ newton_form m c x a i n
unfolding newton_form differences
parts_joined m i zero j k n a c x from whole =
    let at : j ≡ i = omega (arith, from) in let count : n ≡ k = omega (arith, whole) in rw (at, count) (omega arith)
parts_joined m i (suc h) j k n a c x from whole =
    let count : n ≡ suc (h + k) = omega (arith, whole) in
    let rest = parts_joined m (suc i) h j k (h + k) a c x (omega (arith, from)) refl in
    rw count (omega (arith, ap (λ v. residue m (pos a -ℤ pos (x i)) * v) rest))

-- a factor of 0
pub product-none : (n l : ℕ) (f : ℕ → ℕ) → l < n → f l ≡ 0 → product_below n f ≡ 0
unfolding product_below
product-none zero l f below none = absurd (omega arith)
product-none (suc n) l f below none = elim (cases_eq l n) [
  | inl e ↦ rw (← e, none) (omega arith)
  | inr other ↦ rw (product-none n l f (omega arith) none) (omega arith)
]

-- one coefficient more
form-more : (m n a : ℕ) (c x : ℕ → ℕ) → newton_form m c x a 0 (suc n)
    ≡ newton_form m c x a 0 n + product_below n (λ j. residue m (pos a -ℤ pos (x j))) * c n
form-more m n a c x =
    let joined = parts_joined m 0 n n 1 (suc n) a c x (omega arith) (omega arith) in
    sym (rw (differences-below m n a x, part_of_one m a n c x) at joined)

pub no_difference : (m a : ℕ) → residue m (pos a -ℤ pos a) ≡ 0
no_difference m a = let e : pos a -ℤ pos a ≡ pos 0 = omega (arith, ints) in ap (residue m) e ∙ zero-mod m

-- at a point before it, one coefficient more changes nothing
kept_before : (m n l : ℕ) (c x : ℕ → ℕ) → l < n → newton_form m c x (x l) 0 (suc n) ≡ newton_form m c x (x l) 0 n
kept_before m n l c x below =
    let none = product-none n l (λ j. residue m (pos (x l) -ℤ pos (x j))) below (no_difference m (x l)) in
    rw (form-more m n (x l) c x, none) (omega arith)

-- what is left, divided by the product of the differences
value_completed : (m known f rest y d w c : ℕ) → known ≡ f % m → rest ≡ residue m (pos y -ℤ pos known) → IsInverse m d w
    → c ≡ (rest * w) % m → (f + d * c) % m ≡ y % m
value_completed m known f rest y d w c is_known is_rest inverse is =
    (mod_of_combination {u = f + d * c} {v = y} (mod_add (mod_sym (mod_of_residue is_known))
    (mod_add (mod_of_difference known (omega (arith, inverse.below)) is_rest)
    (mod_add (mod_times d (mod_of_residue is)) (mod_times rest (mod_of_inverse inverse))))) (omega arith)).same

-- one more coefficient by Newton's divided differences
pub one_divided : (m i : ℕ) (c d x y : ℕ → ℕ) (known rest w : ℕ)
    → ((l : ℕ) → l < i → newton_form m c x (x l) 0 i % m ≡ y l) → ((l : ℕ) → l < i → d l ≡ c l)
    → known ≡ newton_form m c x (x i) 0 i % m → rest ≡ residue m (pos (y i) -ℤ pos known)
    → IsInverse m (product_below i (difference m x i)) w → d i ≡ (rest * w) % m → y i < m
    → (l : ℕ) → l < i + 1 → newton_form m d x (x l) 0 (i + 1) % m ≡ y l
one_divided m i c d x y known rest w before kept is_known is_rest inverse is below l within =
    let same : (a : ℕ) → newton_form m d x a 0 i ≡ newton_form m c x a 0 i =
    λ a. form-same m i 0 a d c x (λ l b. kept l (omega (arith, b))) in
    let next : i + 1 ≡ suc i = omega arith in
    rw next (elim (cases_eq l i) [
      | inl e ↦ rw (e, form-more m i (x i) d x, same (x i), ← mod-eq_of_lt below)
          (value_completed m known _ rest (y i) _ w (d i) is_known is_rest inverse is)
      | inr other ↦ rw (kept_before m i l d x (omega arith), same (x l)) (before l (omega arith))
    ])

pub one_expanded : (m n a X : ℕ) (e s : ℕ → ℕ) → 0 < m
    → ((l : ℕ) → l < n → Congruent m (e l + a * s (suc l)) (s l)) → e n ≡ s n
    → Congruent m (polynomial_at (suc n) e X)
    (s 0 + residue m (pos X -ℤ pos a) * polynomial_at n (λ l. s (suc l)) X)
unfolding sum_below
one_expanded m n a X e s positive each last =
    let is : Congruent m (residue m (pos X -ℤ pos a) + a) X = mod_of_difference _ positive refl in
    mod_of_combination (mod_add (with_multiple m n a X e (λ l. s (suc l)) s each)
    (mod_times (polynomial_at n (λ l. s (suc l)) X) (mod_sym is)))
    (omega (arith, ap (λ v. v * X ^ n) last, polynomial-first n s X))

inverse_of_negative : (m u v a b x y : ℕ) → y + x ≡ m → Congruent m (u * x) 1 → Congruent m (u + b) a
    → Congruent m (v + a) b
    → Congruent m (v * y) 1
inverse_of_negative m u v a b x y whole one at_u at_v =
    mod_of_combination (mod_add (mod_of_modulus v) (mod_add (mod_times x (mod_sym at_u))
    (mod_add (mod_times x (mod_sym at_v)) one)))
    (omega (arith, ap (λ k. v * k) whole))

-- b - a has an inverse where a - b has
pub turned_difference : (m a b : ℕ) → HasInverse m (residue m (pos a -ℤ pos b))
    → HasInverse m (residue m (pos b -ℤ pos a))
turned_difference m a b h =
    let below = h.1.below in
    let positive : 0 < m = omega (arith, below) in
    let product = inverse_of_negative m _ _ a b h.0 (m - h.0) (omega (arith, below)) (mod_of_inverse h.1)
    (mod_of_difference _ positive refl) (mod_of_difference _ positive refl) in
    ((m - h.0) % m, record { below = mod-lt (m - h.0) positive; one = mul-mod_second _ (m - h.0) m ∙ product.same })

-- the points fit exactly where the products of the differences have inverses
pub fit_from_products : (m n : ℕ) (x : ℕ → ℕ)
    → ((i : ℕ) → i < n → HasInverse m (product_below i (difference m x i) % m)) → HaveUnitDifferences m n x
fit_from_products m n x each =
    let lower : (i j : ℕ) → i < n → j < i → HasInverse m (difference m x i j) =
    λ i j l k. let h = each i l in has_each m i (difference m x i) (h.0, inverse_from_mod m _ h.0 h.1) j k in
    record {
      unit = λ i j l k other. elim (cases_lt j i) [
        | inl b ↦ lower i j l b
        | inr b ↦ turned_difference m (x j) (x i) (lower j i k (omega arith))
      ];
    }

pub products_from_fit : (m n : ℕ) (x : ℕ → ℕ) → 0 < m → HaveUnitDifferences m n x
    → (i : ℕ) → i < n → HasInverse m (product_below i (difference m x i) % m)
products_from_fit m n x positive fit i l =
    let h = has_product m i (difference m x i) positive
    (λ j k. fit.unit i j l (omega arith) (omega arith)) in
    (h.0, inverse_mod m _ h.0 h.1)

-- one step of Horner's rule, the coefficients taken from the last
pub horner_step_extends_value : (m n k : ℕ) (c : ℕ → ℕ) (a value product sum : ℕ) → k < n
    → value ≡ polynomial_at k (λ i. c (n - k + i)) a % m → product ≡ (value * a) % m
    → sum ≡ (c (n - 1 - k) + product) % m
    → sum ≡ polynomial_at (k + 1) (λ i. c (n - (k + 1) + i)) a % m
horner_step_extends_value m n k c a value product sum l is_value is_product is =
    let next : k + 1 ≡ suc k = omega arith in
    let first : n - suc k + 0 ≡ n - 1 - k = omega arith in
    let rest = polynomial-same k (λ i. c (n - suc k + suc i)) (λ i. c (n - k + i)) a (λ i b. ap c (omega arith)) in
    let whole : Congruent m (c (n - 1 - k) + product) (c (n - 1 - k) + a * polynomial_at k (λ i. c (n - k + i)) a) =
    mod_of_combination (mod_add (mod_of_residue is_product) (mod_times a (mod_of_residue is_value))) (omega arith) in
    rw (is, next, polynomial-first k (λ i. c (n - suc k + i)) a, first, rest) whole.same

pub zero_is_empty_polynomial_value : (m a value : ℕ) (c : ℕ → ℕ) → value ≡ 0 % m → value ≡ polynomial_at 0 c a % m
zero_is_empty_polynomial_value m a value c is = is ∙ ap (λ v. v % m) (sym (polynomial-none c a))

pub value_all : (n a : ℕ) (c : ℕ → ℕ) → polynomial_at n (λ i. c (n - n + i)) a ≡ polynomial_at n c a
value_all n a c = polynomial-same n (λ i. c (n - n + i)) c a (λ i l. ap c (let e : n - n + i ≡ i = omega arith in e))

-- one point more of the coefficients: e are the coefficients behind it before, f after
pub expanded_more : (m n i from old k next : ℕ) (c e f x : ℕ → ℕ) → 0 < m → from ≡ i → old ≡ suc i → next ≡ suc k
    → n ≡ i + suc k
    → ((a : ℕ) → Congruent m (polynomial_at k (λ l. e (old + l)) a) (newton_form m c x a old k)) → e i ≡ c i
    → ((l : ℕ) → i ≤ l → l + 1 < n → Congruent m (f l + x i * e (l + 1)) (e l)) → ((l : ℕ) → n ≤ l + 1 → f l ≡ e l)
    → (a : ℕ) → Congruent m (polynomial_at next (λ l. f (from + l)) a) (newton_form m c x a from next)
unfolding newton_form
expanded_more m n i from old k next c e f x positive is_from is_old is_next count before kept done last a =
    let start : i + 0 ≡ i = omega arith in
    let each : (l : ℕ) → l < k → Congruent m (f (i + l) + x i * e (i + suc l)) (e (i + l)) =
    λ l b. let at : i + suc l ≡ i + l + 1 = omega arith in
    mod_trans (mod_of_eq (ap (λ j. f (i + l) + x i * e j) at)) (done (i + l) (omega arith) (omega (arith, b, count))) in
    let shifted = polynomial-same k (λ l. e (i + suc l)) (λ l. e (suc i + l)) a (λ l b. ap e (omega arith)) in
    let step = one_expanded m k (x i) a (λ l. f (i + l)) (λ l. e (i + l)) positive each
    (last (i + k) (omega (arith, count))) in
    rw (is_from, is_next) (mod_trans step (mod_add (mod_of_eq (ap e start ∙ kept))
    (mod_times _ (mod_trans (mod_of_eq shifted) (rw is_old at (before a))))))

pub expanded_all : (m n k : ℕ) (c e x : ℕ → ℕ) → k ≡ n
    → ((a : ℕ) → Congruent m (polynomial_at k (λ i. e (n - k + i)) a) (newton_form m c x a (n - k) k))
    → (a : ℕ) → Congruent m (polynomial_at n e a) (newton_form m c x a 0 n)
expanded_all m n k c e x is same a =
    let none : n - n ≡ 0 = omega arith in rw (is, value_all n a e, none) at (same a)

-- the difference of a value and a multiple of the next one
pub difference_plus_multiple_congruent : (m a product new o next : ℕ) → 0 < m → product ≡ (a * next) % m
    → new ≡ residue m (pos o -ℤ pos product) → Congruent m (new + a * next) o
difference_plus_multiple_congruent m a product new o next positive is_product is =
    mod_of_combination (mod_add (mod_of_difference product positive is) (mod_sym (mod_of_residue is_product)))
    (omega arith)

-- an inversion says whether there is an inverse
pub flag_true_iff_invertible : {T : Type 0} (value : T → ℕ) (m a : ℕ) (found : Option T) (b : Bool)
    → IsInversion value m a found → b ≡ is_some found → IsTrue b ↔ HasInverse m a
flag_true_iff_invertible value m a None b h e =
    ((λ t. let wrong : false ≡ true = sym e ∙ t in cc), λ (x, inverse). absurd (h x inverse))
flag_true_iff_invertible value m a (Some y) b h e = ((λ t. (value y, h)), λ inverse. e)

-- a product and its residue
pub has_of_residue : (m a v : ℕ) → v ≡ a % m → HasInverse m v → HasInverse m a
has_of_residue m a v e h = grind (arith, inverse_from_mod)

pub has_to_residue : (m a v : ℕ) → v ≡ a % m → HasInverse m a → HasInverse m v
has_to_residue m a v e h = grind (arith, inverse_mod)

pub inverse_of_product : (m a v x : ℕ) → v ≡ a % m → IsInverse m v x → IsInverse m a x
inverse_of_product m a v x e h = inverse_from_mod m a x (rw e at h)

-- the coefficients from Newton's form have its values
pub interpolated_value : (m n a b old y i : ℕ) (e f x : ℕ → ℕ) → a ≡ n → b ≡ n
    → ((q : ℕ) → Congruent m (polynomial_at a e q) (newton_form m f x q 0 a))
    → newton_form m f x (x i) 0 b % m ≡ old → old ≡ y → y ≡ polynomial_at n e (x i) % m
interpolated_value m n a b old y i e f x is_a is_b same value is = grind arith

-- parts without a coefficient
pub part_of_none : (m a from value : ℕ) (c x : ℕ → ℕ) → value ≡ 0 % m → Congruent m value (newton_form m c x a from 0)
unfolding newton_form
part_of_none m a from value c x is = mod_of_residue is

pub product_of_none : (m a from value : ℕ) (x : ℕ → ℕ) → value ≡ 1 % m → Congruent m value (differences m x a from 0)
unfolding differences
product_of_none m a from value x is = mod_of_residue is

-- one coefficient more at the front
pub part_of_more : (m i from k l : ℕ) (c x : ℕ → ℕ) (a value difference coefficient new : ℕ) → from ≡ i + 1 → l ≡ suc k
    → difference ≡ residue m (pos a -ℤ pos (x i)) → coefficient ≡ c i → new ≡ (coefficient + difference * value) % m
    → Congruent m value (newton_form m c x a from k) → Congruent m new (newton_form m c x a i l)
unfolding newton_form
part_of_more m i from k l c x a value difference coefficient new next count is read step before =
    let start : from ≡ suc i = omega (arith, next) in
    rw (count, ← is, ← read)
    (mod_trans (mod_of_residue step) (mod_add (mod_refl coefficient) (mod_times difference (rw start at before))))

-- .. and one difference more
pub product_of_more : (m i from k l : ℕ) (x : ℕ → ℕ) (a product difference new : ℕ) → from ≡ i + 1 → l ≡ suc k
    → difference ≡ residue m (pos a -ℤ pos (x i)) → new ≡ (product * difference) % m
    → Congruent m product (differences m x a from k) → Congruent m new (differences m x a i l)
unfolding differences
product_of_more m i from k l x a product difference new next count is step before =
    let start : from ≡ suc i = omega (arith, next) in
    rw (count, ← is)
    (mod_of_combination (mod_add (mod_of_residue step) (mod_times difference (rw start at before))) (omega arith))

-- the value from the two halves, of which the upper may have one coefficient more
pub value_joined : (m n h k : ℕ) (c x : ℕ → ℕ) (a low product high : ℕ) → k ≡ h → 2 * h ≤ n
    → Congruent m low (newton_form m c x a (h - k) k) → Congruent m product (differences m x a (h - k) k)
    → Congruent m high (newton_form m c x a (2 * h - k) (k + (n - 2 * h)))
    → Congruent m (low + product * high) (newton_form m c x a 0 n)
value_joined m n h k c x a low product high done within is_low is_product is_high =
    let front : h - k ≡ 0 = omega (arith, done) in
    let behind : 2 * h - k ≡ h = omega (arith, done) in
    let count : k + (n - 2 * h) ≡ n - h = omega (arith, done, within) in
    let joined = parts_joined m 0 h h (n - h) n a c x (omega arith) (omega (arith, within)) in
    mod_trans (mod_add (rw (front, done) at is_low)
    (mod_mul (rw (front, done) at is_product) (rw (behind, count) at is_high))) (mod_of_eq joined)

-- the upper half before its first step: the coefficient that it has more, or none
pub part_of_top : (m n a high : ℕ) (c x : ℕ → ℕ) → n % 2 ≡ 1 → high ≡ c (n - 1)
    → Congruent m high (newton_form m c x a (2 * (n / 2) - 0) (0 + (n - 2 * (n / 2))))
part_of_top m n a high c x odd is =
    let last : 2 * (n / 2) - 0 ≡ n - 1 = omega (arith, odd) in
    let count : 0 + (n - 2 * (n / 2)) ≡ 1 = omega (arith, odd) in
    rw (count, last, part_of_one m a (n - 1) c x) (mod_of_eq is)

pub part_of_no_top : (m n a high : ℕ) (c x : ℕ → ℕ) → n % 2 ≢ 1 → high ≡ 0 % m
    → Congruent m high (newton_form m c x a (2 * (n / 2) - 0) (0 + (n - 2 * (n / 2))))
part_of_no_top m n a high c x even is =
    let none : 0 + (n - 2 * (n / 2)) ≡ 0 = omega (arith, even) in
    rw none (part_of_none m a (2 * (n / 2) - 0) high c x is)
