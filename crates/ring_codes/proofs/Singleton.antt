-- Singleton's bound: words that differ in at least d of n places differ in the first n - d + 1 ones, so that these are
-- the digits of different numbers. The bound is met.
use Rattle.ring_codes.proofs.Names.{◌≡◌, ◌≢◌, ◌⊎◌, ◌+◌, ◌-◌, ◌*◌, ◌%◌, ◌^◌, ◌<◌, ◌≤◌, ◌∙◌, ℕ, zero, suc, ap, sym, arith}
use Rattle.ring_codes.proofs.Names.{refl, inl, inr, mod-eq_of_lt, zero-mod, pow-zero, pow-suc, mul-le-mul_left}
use Rattle.ring_codes.proofs.Names.{cases_eq, cases_lt, mul-mod_first, mul-mod_second, polynomial_at}
use Rattle.ring_codes.proofs.Names.{HaveUnitDifferences, polynomial-none, mod_add, mod_sym, equal_below, factor_cancel}
use Rattle.ring_codes.proofs.Names.{polynomial-first, has_product, IsEncoding, distance}
use Rattle.num_modular.specs.Sums.{sum_below}
use Rattle.num_modular.specs.Products.{product_below}
use Rattle.ring_codes.proofs.Congruences.{mod_of_combination, mod_of_modulus}
use Rattle.ring_codes.proofs.Distances.{extended_sequence, at_end, before_end, counted_same, counted_other}
use Rattle.ring_codes.proofs.Distances.{counted_most}
use Rattle.ring_codes.proofs.NearestWords.{at_root, difference_alike, no_value, unit_alike, unit_residue_is_nonzero}
use Rattle.ring_codes.proofs.Roots.{constant_one, expanded, highest_is_one, product_expanded}

-- the number with these digits
number_of_digits_below_power : (r m : ℕ) (c : ℕ → ℕ) → ((i : ℕ) → i < r → c i < m) → polynomial_at r c m < m ^ r
number_of_digits_below_power zero m c small = omega (arith, polynomial-none c m, pow-zero m)
number_of_digits_below_power (suc r) m c small =
    let most = mul-le-mul_left m (number_of_digits_below_power r m (λ i. c (suc i))
    (λ i l. small (suc i) (omega arith))) in
    omega (arith, most, small 0 (omega arith), polynomial-first r c m, pow-suc m r)

-- a list by its first element and the others
digit_same : (r : ℕ) (c d : ℕ → ℕ) (i : ℕ) → i < suc r → c 0 ≡ d 0 → ((j : ℕ) → j < r → c (suc j) ≡ d (suc j))
    → c i ≡ d i
digit_same r c d zero l first rest = first
digit_same r c d (suc i) l first rest = rest i (omega arith)

-- the number tells its digits
same_digits : (r m : ℕ) (c d : ℕ → ℕ) → ((i : ℕ) → i < r → c i < m) → ((i : ℕ) → i < r → d i < m)
    → polynomial_at r c m ≡ polynomial_at r d m → (i : ℕ) → i < r → c i ≡ d i
same_digits zero m c d small_c small_d same i l = absurd (omega arith)
same_digits (suc r) m c d small_c small_d same i l =
    let v : ℕ = polynomial_at r (λ i. c (suc i)) m in
    let w : ℕ = polynomial_at r (λ i. d (suc i)) m in
    let c_small = small_c 0 (omega arith) in
    let whole : c 0 + m * v ≡ d 0 + m * w = rw (polynomial-first r c m, polynomial-first r d m) at same in
    let first : c 0 ≡ d 0 = equal_below c_small (small_d 0 (omega arith))
    (mod_of_combination (mod_add (mod_sym (mod_of_modulus v)) (mod_of_modulus w)) (omega (arith, whole))) in
    let rest : v ≡ w = factor_cancel m v w (omega (arith, c_small)) (omega (arith, whole, first)) in
    digit_same r c d i l first
    (same_digits r m (λ i. c (suc i)) (λ i. d (suc i)) (λ j k. small_c (suc j) (omega arith))
    (λ j k. small_d (suc j) (omega arith)) rest)

-- where a function takes a value
pub value_or_none : (size v : ℕ) (f : ℕ → ℕ) → ((a : ℕ) × (a < size) × (f a ≡ v)) ⊎ ((a : ℕ) → a < size → f a ≢ v)
value_or_none zero v f = inr (λ a l e. absurd (omega arith))
value_or_none (suc size) v f = elim (cases_eq (f size) v) [
  | inl e ↦ inl (size, omega arith, e)
  | inr other ↦ elim (value_or_none size v f) [
    | inl h ↦ let l = h.1 in inl (h.0, omega (arith, l), h.2)
    | inr none ↦ inr (λ a l e. elim (cases_eq a size) [
      | inl same ↦ other (ap f (sym same) ∙ e)
      | inr differ ↦ none a (omega arith) e
    ])
  ]
]

-- different numbers below a bound are at most as many
pub injection_size_at_most_bound : (most size : ℕ) (f : ℕ → ℕ) → ((a : ℕ) → a < size → f a < most)
    → ((a b : ℕ) → a < size → b < size → a ≢ b → f a ≢ f b) → size ≤ most
injection_size_at_most_bound zero zero f below apart = omega arith
injection_size_at_most_bound zero (suc size) f below apart = let l = below 0 (omega arith) in absurd (omega (arith, l))
injection_size_at_most_bound (suc most) zero f below apart = omega arith
injection_size_at_most_bound (suc most) (suc size) f below apart = elim (value_or_none (suc size) most f) [
  | inr none ↦
      let l = injection_size_at_most_bound most (suc size) f
      (λ a l. let b = below a l in let o = none a l in omega (arith, b, o)) apart in
      omega (arith, l)
  | inl at ↦
      let c : ℕ = at.0 in
      let c_below = at.1 in
      let g : ℕ → ℕ = extended_sequence c (f size) f in
      let other : (a : ℕ) → a < suc size → a ≢ c → f a < most =
      λ a l differ. let b = below a l in let o = apart a c l c_below differ in
      let t = at.2 in
      let not_most : f a ≢ most = λ e. o (e ∙ sym t) in
      omega (arith, b, not_most) in
      let l = injection_size_at_most_bound most size g
      (λ a l. elim (cases_eq a c) [
        | inl e ↦ rw (at_end c (f size) f a e) (other size (omega arith) (omega (arith, e, l)))
        | inr differ ↦ rw (before_end c (f size) f a differ) (other a (omega arith) differ)
      ])
      (λ a b l k differ same. elim (cases_eq a c) [
        | inl e ↦
            let q : b ≢ c = omega (arith, e, differ) in
            apart size b (omega arith) (omega arith) (omega arith)
            (rw (at_end c (f size) f a e, before_end c (f size) f b q) at same)
        | inr p ↦ elim (cases_eq b c) [
          | inl e ↦ apart a size (omega arith) (omega arith) (omega arith)
              (rw (before_end c (f size) f a p, at_end c (f size) f b e) at same)
          | inr q ↦ apart a b (omega arith) (omega arith) differ
              (rw (before_end c (f size) f a p, before_end c (f size) f b q) at same)
        ]
      ]) in
      omega (arith, l)
]

-- words that agree at the first r places differ in n - r at most
distance_at_most_suffix_length : (n r : ℕ) (a b : ℕ → ℕ) → ((i : ℕ) → i < r → a i ≡ b i) → distance n a b ≤ n - r
unfolding sum_below
distance_at_most_suffix_length zero r a b same = omega arith
distance_at_most_suffix_length (suc n) r a b same =
    let i = distance_at_most_suffix_length n r a b same in
    elim (cases_lt n r) [
      | inl before ↦ let z = counted_same (a n) (b n) (same n before) in omega (arith, z, i)
      | inr behind ↦ let o = counted_most (a n) (b n) in omega (arith, o, i, behind)
    ]

pub singleton_bound : (m n d size : ℕ) (words : ℕ → ℕ → ℕ) → 1 ≤ d → d ≤ n
    → ((a i : ℕ) → a < size → i < n → words a i < m)
    → ((a b : ℕ) → a < size → b < size → a ≢ b → d ≤ distance n (words a) (words b)) → size ≤ m ^ (n - d + 1)
singleton_bound m n d size words some few small apart =
    let r : ℕ = n - d + 1 in
    let digits : (a : ℕ) → a < size → (i : ℕ) → i < r → words a i < m = grind arith in
    injection_size_at_most_bound (m ^ r) size (λ a. polynomial_at r (words a) m) (λ a l. number_of_digits_below_power r
    m (words a) (digits a l))
    (λ a b l k differ same.
    let far = apart a b l k differ in
    let near = distance_at_most_suffix_length n r (words a) (words b)
    (same_digits r m (words a) (words b) (digits a l) (digits b k) same) in
    omega (arith, far, near, some, few))

-- The bound is met: by 0 and the coefficients of the product of X - x 0, .., X - x (k - 2).

-- a factor that is 0 modulo m
product_zero : (m n l : ℕ) (f : ℕ → ℕ) → l < n → f l % m ≡ 0 → product_below n f % m ≡ 0
unfolding product_below
product_zero m zero l f below none = absurd (omega arith)
product_zero m (suc n) l f below none = elim (cases_eq l n) [
  | inl e ↦ rw (← mul-mod_second (product_below n f) (f n) m, ← e, none) (omega arith)
  | inr other ↦ rw (← mul-mod_first (product_below n f) (f n) m, product_zero m n l f (omega arith) none) (omega arith)
]

-- words that agree at the first d places alone
agree_first : (n d : ℕ) (a b : ℕ → ℕ) → ((i : ℕ) → i < d → a i ≡ b i) → ((i : ℕ) → d ≤ i → i < n → a i ≢ b i)
    → distance n a b ≡ n - d
unfolding sum_below
agree_first zero d a b same other = omega arith
agree_first (suc n) d a b same other =
    let i = agree_first n d a b same (λ i l k. other i l (omega arith)) in
    elim (cases_lt n d) [
      | inl before ↦ let z = counted_same (a n) (b n) (same n before) in omega (arith, z, i)
      | inr behind ↦ let z = counted_other (a n) (b n) (other n behind (omega arith)) in omega (arith, z, i)
    ]

pub bound_met : (m k n : ℕ) (x : ℕ → ℕ) → 2 ≤ m → 1 ≤ k → k ≤ n → HaveUnitDifferences m n x
    → (a : ℕ → ℕ) × (b : ℕ → ℕ) × (u : ℕ → ℕ) × (v : ℕ → ℕ) × IsEncoding m k n x a u × IsEncoding m k n x b v
    × ((i : ℕ) × (i < k) × (a i % m ≢ b i % m)) × (distance n u v ≡ n - k + 1)
bound_met m zero n x two some few fit = absurd (omega arith)
bound_met m (suc d) n x two some few fit =
    let positive : 0 < m = omega arith in
    let r : ℕ → ℕ = λ j. (m - 1) * x j in
    let a : ℕ → ℕ = expanded d r constant_one in
    let word : ℕ → ℕ = λ i. polynomial_at (suc d) a (x i) % m in
    let value : (i : ℕ) → word i ≡ product_below d (λ j. x i + r j) % m = λ i. rw (product_expanded d (x i) r) refl in
    let apart = agree_first n d word (λ i. 0)
    (λ i l. rw (value i) (product_zero m d i (λ j. x i + r j) l (at_root m (x i) positive)))
    (λ i l k z. unit_residue_is_nonzero m (product_below d (λ j. x i + r j)) two
    (has_product m d (λ j. x i + r j) positive
    (λ j b. unit_alike m _ _ (difference_alike m (x i) (x j) positive)
    (fit.unit i j k (omega arith) (omega arith)))) (rw (value i) at z)) in (
      a,
      (λ i. 0),
      word,
      (λ i. 0),
      record { symbol = λ i l. refl },
      record { symbol = λ i l. rw (no_value (suc d) (x i)) (sym (zero-mod m)) },
      (d, omega arith, rw (highest_is_one d r, mod-eq_of_lt two, zero-mod m) (λ same. omega (arith, same))),
      omega (arith, apart, few),
    )
