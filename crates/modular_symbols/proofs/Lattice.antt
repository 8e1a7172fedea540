-- Reciprocity of the counts for odd m and n, by the pairs (x, y) of a number x of the half
-- system of n and a number y of the half system of m, and by where m * x - n * y lies.
use Rattle.std.proofs.Common.{◌≡◌, ℕ, suc, ◌+◌, ◌-◌, ◌*◌, ◌%◌, ◌/◌, ◌<◌, ◌≤◌, pos}
use Rattle.std.proofs.Common.{cond, ltb, leb, ◌&&◌, sym, ◌∙◌, ap, arith, ⊎_elim, ◌≢◌}
use Rattle.std.proofs.lemmas.Bool.Decides.{nat_tests}
use Rattle.std.proofs.lemmas.Bool.{cases_lt, cases_eq}
use Rattle.std.proofs.lemmas.Nat.{mod_below}
use Rattle.std.proofs.Math.Nat.{mul-le-mul_left, lt_of_mul-lt-mul_left}
use Rattle.modular_word.specs.Divisors.{Coprime}
use Rattle.modular_word.specs.Sums.{sum_to}
use Rattle.modular_word.proofs.Divisors.{remainder_of_multiple_is_zero}
use Rattle.modular_word.proofs.Sums.{sum_to-same, sum_to-add, sum_to-ones, sum_to-nothing}
use Rattle.modular_word.proofs.Sums.{sum_to-only, sum_to-swap, sum_to-scale, sum_to-reversed}
use Rattle.modular_symbols.specs.Jacobi.{half_system_count}
use Rattle.modular_symbols.proofs.HalfSystem.{above, half_system_count-sum, not_divided}

-- ---- sums over pairs
-- the sum of f x y over x from 1 to h and y from 1 to k
abbrev pairs : (ℕ → ℕ → ℕ) → ℕ → ℕ → ℕ
pairs f h k = sum_to (λ x. sum_to (λ y. f x y) k) h

pairs-same : (f g : ℕ → ℕ → ℕ) (h k : ℕ) → ((x y : ℕ) → 0 < x → x ≤ h → 0 < y → y ≤ k → f x y ≡ g x y)
    → pairs f h k ≡ pairs g h k
pairs-same f g h k e = search (arith, sum_to-same)

pairs-add : (f g : ℕ → ℕ → ℕ) (h k : ℕ) → pairs (λ x y. f x y + g x y) h k ≡ pairs f h k + pairs g h k
pairs-add f g h k =
    sum_to-same (λ x. sum_to (λ y. f x y + g x y) k) (λ x. sum_to (λ y. f x y) k + sum_to (λ y. g x y) k) _
    (λ x p q. sum_to-add (λ y. f x y) (λ y. g x y) _)
    ∙ sum_to-add (λ x. sum_to (λ y. f x y) k) (λ x. sum_to (λ y. g x y) k) _

pairs-ones : (h k : ℕ) → pairs (λ x y. 1) h k ≡ h * k
pairs-ones h k =
    sum_to-same (λ x. sum_to (λ y. 1) k) (λ x. 1 * k) _ (λ x p q. sum_to-ones _ ∙ omega arith)
    ∙ sum_to-scale (λ x. 1) _ _ ∙ ap (λ v. v * k) (sum_to-ones _)

pairs-reflected : (f : ℕ → ℕ → ℕ) (h k : ℕ) → pairs (λ x y. f (suc h - x) (suc k - y)) h k ≡ pairs f h k
pairs-reflected f h k =
    sum_to-same (λ x. sum_to (λ y. f (suc h - x) (suc k - y)) k) (λ x. sum_to (λ y. f (suc h - x) y) k) _
    (λ x p q. sum_to-reversed (λ y. f (suc h - x) y) _) ∙ sum_to-reversed (λ x. sum_to (λ y. f x y) k) _

-- ---- the four regions
-- 1 where u - v lies strictly between -n / 2 and 0, else 0
just_below : ℕ → ℕ → ℕ → ℕ
just_below n u v = cond (ltb u v && ltb (2 * v) (2 * u + n)) 1 0

-- 1 where u - v is at most -n / 2, else 0
far_below : ℕ → ℕ → ℕ → ℕ
far_below n u v = cond (leb (2 * u + n) (2 * v)) 1 0

just_below-not : (n u v : ℕ) → (u < v → 2 * v < 2 * u + n → ⊥) → just_below n u v ≡ 0
unfolding just_below
just_below-not n u v p = grind (arith, nat_tests)

-- two different numbers lie in exactly one region
one_region : (m n u v : ℕ) → 0 < n → 0 < m → u ≢ v
    → far_below n u v + just_below n u v + just_below m v u + far_below m v u ≡ 1
unfolding just_below far_below
one_region m n u v p q z = grind (arith, nat_tests)

-- ---- the pairs just below
-- for one x only the y after the quotient of m * x by n can lie there
row_other : (m n x y : ℕ) → 0 < n → y ≢ suc (m * x / n) → just_below n (m * x) (n * y) ≡ 0
row_other m n x y p z = search (arith, just_below-not, mul-le-mul_left, mod_below, cases_lt)

-- it does where the remainder of m * x lies above the half system
row_one : (m n x : ℕ) → n % 2 ≡ 1 → (n - 1) / 2 < (m * x) % n → just_below n (m * x) (n * suc (m * x / n)) ≡ 1
unfolding just_below
row_one m n x o h = grind (arith, mod_below, nat_tests)

row_has_no_point : (m n x : ℕ) → n % 2 ≡ 1 → (m * x) % n ≤ (n - 1) / 2 → just_below n (m * x) (n * suc (m * x / n)) ≡ 0
row_has_no_point m n x o h = just_below-not n (m * x) (n * suc (m * x / n)) (λ l k. omega arith)

-- and then it belongs to the half system of m
row_point_within_half_system : (m n x : ℕ) → n % 2 ≡ 1 → m % 2 ≡ 1 → x ≤ (n - 1) / 2 → (n - 1) / 2 < (m * x) % n
    → suc (m * x / n) ≤ (m - 1) / 2
row_point_within_half_system m n x o k p h =
    let t : 2 * x + 1 ≤ n = omega arith in
    let i = mul-le-mul_left m t in
    let l : n * (2 * (m * x / n) + 1) < n * m = omega arith in
    search (arith, lt_of_mul-lt-mul_left)

row_is_above : (m n x : ℕ) → n % 2 ≡ 1 → m % 2 ≡ 1 → x ≤ (n - 1) / 2
    → sum_to (λ y. just_below n (m * x) (n * y)) ((m - 1) / 2) ≡ above n (m * x)
unfolding above
row_is_above m n x o k p =
    let others : (y : ℕ) → y ≢ suc (m * x / n) → just_below n (m * x) (n * y) ≡ 0 =
    λ y z. row_other _ _ _ y (omega arith) z in
    ⊎_elim
    (λ (l : (n - 1) / 2 < (m * x) % n).
    sum_to-only (λ y. just_below n (m * x) (n * y)) ((m - 1) / 2) (suc (m * x / n)) (omega arith)
    (row_point_within_half_system _ _ _ o k p l) (λ y u v z. others y z)
    ∙ row_one _ _ _ o l ∙ grind (arith, nat_tests))
    (λ (l : (m * x) % n ≤ (n - 1) / 2).
    sum_to-same (λ y. just_below n (m * x) (n * y)) (λ y. 0) ((m - 1) / 2)
    (λ y u v.
    ⊎_elim
    (λ (e : y ≡ suc (m * x / n)). ap (λ w. just_below n (m * x) (n * w)) e ∙ row_has_no_point _ _ _ o l)
    (λ (z : y ≡ suc (m * x / n) → ⊥). others y z)
    (cases_eq y (suc (m * x / n))))
    ∙ sum_to-nothing ((m - 1) / 2) ∙ grind (arith, nat_tests))
    (cases_lt ((n - 1) / 2) ((m * x) % n))

-- so the pairs just below are as many as the count of m over n
just_below-count : (m n : ℕ) → n % 2 ≡ 1 → m % 2 ≡ 1
    → pairs (λ x y. just_below n (m * x) (n * y)) ((n - 1) / 2) ((m - 1) / 2) ≡ half_system_count (pos m) n
just_below-count m n o k = search (arith, sum_to-same, just_below, row_is_above, half_system_count-sum)

-- ---- the pairs far below
reflected_region : (m n a b c d : ℕ) → 2 * a + 2 * b ≡ m * n + m → 2 * c + 2 * d ≡ m * n + n
    → far_below n a c ≡ far_below m d b
unfolding far_below
reflected_region m n a b c d p q = grind (arith, nat_tests)

-- the reflection takes them to the pairs far above
far_below-reflected : (m n x y : ℕ) → n % 2 ≡ 1 → m % 2 ≡ 1 → x ≤ (n - 1) / 2 → y ≤ (m - 1) / 2
    → far_below n (m * (suc ((n - 1) / 2) - x)) (n * (suc ((m - 1) / 2) - y)) ≡ far_below m (n * y) (m * x)
far_below-reflected m n x y o k p q =
    let d : 2 * (suc ((n - 1) / 2) - x) + 2 * x ≡ n + 1 = omega arith in
    let e : 2 * (suc ((m - 1) / 2) - y) + 2 * y ≡ m + 1 = omega arith in
    let i = ap (λ v. m * v) d in
    let j = ap (λ v. n * v) e in
    reflected_region m n (m * (suc ((n - 1) / 2) - x)) (m * x) (n * (suc ((m - 1) / 2) - y)) (n * y) (omega arith)
    (omega arith)

-- ---- the sum of the two counts has the parity of the number of all pairs
pub counts_reciprocal : (m n : ℕ) → n % 2 ≡ 1 → m % 2 ≡ 1 → Coprime m n
    → (half_system_count (pos m) n + half_system_count (pos n) m) % 2 ≡ ((n - 1) / 2 * ((m - 1) / 2)) % 2
counts_reciprocal m n o k c =
    let h : ℕ = (n - 1) / 2 in
    let l : ℕ = (m - 1) / 2 in
    let a : ℕ → ℕ → ℕ = λ x y. far_below n (m * x) (n * y) in
    let b : ℕ → ℕ → ℕ = λ x y. just_below n (m * x) (n * y) in
    let d : ℕ → ℕ → ℕ = λ x y. just_below m (n * y) (m * x) in
    let e : ℕ → ℕ → ℕ = λ x y. far_below m (n * y) (m * x) in
    let all = pairs-same (λ x y. a x y + b x y + d x y + e x y) (λ x y. 1) h l
    (λ x y p q u v.
    one_region m n (m * x) (n * y) (omega arith) (omega arith)
    (λ e. not_divided n m x c p (omega arith) (remainder_of_multiple_is_zero n (m * x) y e))) in
    let three = pairs-add (λ x y. a x y + b x y + d x y) e h l in
    let two = pairs-add (λ x y. a x y + b x y) d h l in
    let one = pairs-add a b h l in
    let ones = pairs-ones h l in
    let lower = just_below-count m n o k in
    let upper = sym (sum_to-swap (λ y x. d x y) l h) ∙ just_below-count n m k o in
    let mirror = sym (pairs-reflected a h l) ∙ pairs-same (λ x y. a (suc h - x) (suc l - y)) e h l
    (λ x y p q u v. far_below-reflected m n x y o k q v) in
    omega arith
