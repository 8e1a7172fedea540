-- How many divisions Euclid's algorithm takes, and that these are few.
use Rattle.std.proofs.Common.{◌≡◌, ℕ, zero, suc, ◌+◌, ◌*◌, ◌%◌, ◌^◌, ◌<◌, ◌≤◌, sym, ◌∙◌, ap, refl, arith, ⊎_elim}
use Rattle.std.proofs.lemmas.Bool.Decides.{nat_tests}
use Rattle.std.proofs.lemmas.Nat.{mod_below, mul-lt, mul-le}
use Rattle.std.proofs.Math.Nat.{mul-le-mul_left}
use Rattle.modular_prim.specs.Divisions.{divisions_within, divisions, inverse_divisions}
use Rattle.modular_prim.proofs.FewSteps.{zero_or_positive, rest_twice, few_steps}

no_divisions_at_zero : (k u v : ℕ) → v ≡ 0 → divisions_within k u v ≡ 0
unfolding divisions_within
no_divisions_at_zero zero u v e = refl
no_divisions_at_zero (suc k) u v e = grind (arith, nat_tests)

one_more_division_within : (k u v : ℕ) → 0 < v → divisions_within (suc k) u v ≡ suc (divisions_within k v (u % v))
unfolding divisions_within
one_more_division_within k u v p = grind (arith, nat_tests)

-- a larger bound changes nothing
divisions_within_independent_of_bound : (k l u v : ℕ) → v ≤ k → v ≤ l → divisions_within k u v ≡ divisions_within l u v
divisions_within_independent_of_bound zero l u v p q = no_divisions_at_zero zero u v (omega arith)
    ∙ sym (no_divisions_at_zero l u v (omega arith))
divisions_within_independent_of_bound (suc k) zero u v p q = no_divisions_at_zero (suc k) u v (omega arith)
    ∙ sym (no_divisions_at_zero zero u v (omega arith))
divisions_within_independent_of_bound (suc k) (suc l) u v p q =
    ⊎_elim
    (λ (e : v ≡ 0). no_divisions_at_zero (suc k) _ _ e ∙ sym (no_divisions_at_zero (suc l) _ _ e))
    (λ (z : 0 < v).
    one_more_division_within _ _ _ z ∙ ap suc (divisions_within_independent_of_bound k l v (u % v) (omega arith)
    (omega arith)) ∙ sym (one_more_division_within _ _ _ z))
    (zero_or_positive _)

-- ---- the equations of the count
pub divisions-none : (u v : ℕ) → v ≡ 0 → divisions u v ≡ 0
unfolding divisions
divisions-none u v e = no_divisions_at_zero v u v e

pub divisions-next : (u v : ℕ) → 0 < v → divisions u v ≡ 1 + divisions v (u % v)
unfolding divisions
divisions-next u v p =
    let s : divisions_within (suc v) u v ≡ 1 + divisions_within v v (u % v) = one_more_division_within _ _ _ p
    ∙ omega arith in
    grind (arith, divisions_within_independent_of_bound)

pub inverse_divisions-below : (a m : ℕ) → a < m → inverse_divisions a m ≡ divisions m (a % m)
unfolding inverse_divisions
inverse_divisions-below a m l = grind (arith, nat_tests)

pub inverse_divisions-above : (a m : ℕ) → m ≤ a → inverse_divisions a m ≡ 1 + divisions m (a % m)
unfolding inverse_divisions
inverse_divisions-above a m l = grind (arith, nat_tests)

-- ---- the bound
power_of_divisions_within_bounded : (k u v : ℕ) → 0 < v → v < u → v ≤ k → 2 ^ divisions_within k u v ≤ 2 * (u * v)
power_of_divisions_within_bounded zero u v p l b = absurd (omega arith)
power_of_divisions_within_bounded (suc k) u v p l b =
    let s = ap (λ x. 2 ^ x) (one_more_division_within k u v p) in
    let q = mul-lt 0 0 u v (omega arith) p in
    ⊎_elim
    (λ (z : u % v ≡ 0). let w = ap (λ x. 2 ^ x) (no_divisions_at_zero k v (u % v) z) in omega arith)
    (λ (z : 0 < u % v).
    let i = power_of_divisions_within_bounded k v (u % v) z (mod_below u v p) (omega arith) in
    let t = mul-le-mul_left v (rest_twice u v p (omega arith)) in
    omega arith)
    (zero_or_positive (u % v))

-- two to the number of divisions is at most twice the product
pub divisions-power : (u v : ℕ) → 0 < v → v < u → 2 ^ divisions u v ≤ 2 * (u * v)
unfolding divisions
divisions-power u v p l = power_of_divisions_within_bounded v u v p l (omega arith)

divisions_at_most_twice_width : (w a m : ℕ) → a < m → m < 2 ^ w → divisions m a ≤ 2 * w
divisions_at_most_twice_width w a m l h =
    ⊎_elim
    (λ (z : a ≡ 0). let n = divisions-none m a z in omega arith)
    (λ (z : 0 < a). few_steps w (divisions m a) m a h (omega arith) (divisions-power m a z l)) (zero_or_positive a)

few_above : (w a m : ℕ) → 1 ≤ w → 0 < m → m ≤ a → a < 2 ^ w → 1 + divisions m (a % m) ≤ 2 * w
few_above w a m one p l h =
    ⊎_elim
    (λ (z : a % m ≡ 0). let e = divisions-none m (a % m) z in omega arith)
    (λ (z : 0 < a % m).
    let i = divisions-power m (a % m) z (mod_below a m p) in
    let u = mul-le m (2 * (a % m)) a a l (rest_twice a m p l) in
    let s = few_steps w (suc (divisions m (a % m))) a a h h (omega arith) in
    omega arith)
    (zero_or_positive (a % m))

-- numbers of w bits take at most 2w divisions
pub inverse_divisions-few : (w a m : ℕ) → 1 ≤ w → 0 < m → m < 2 ^ w → a < 2 ^ w → inverse_divisions a m ≤ 2 * w
inverse_divisions-few w a m one p h k =
    grind (arith, inverse_divisions-below, divisions_at_most_twice_width, mod_below, inverse_divisions-above, few_above)

-- ---- the loop's count
-- `count` divisions are done, and those from u and v are left
pub record Counts (a m u v count : ℕ) : Type 0 where
  pub total : count + divisions u v ≡ inverse_divisions a m

pub counts_below : (a m r count : ℕ) → a < m → r ≡ a % m → count ≡ 0 → Counts a m m r count
counts_below a m r count l e z = grind (arith, inverse_divisions-below)

pub counts_above : (a m r count : ℕ) → m ≤ a → r ≡ a % m → count ≡ 1 → Counts a m m r count
counts_above a m r count l e z = grind (arith, inverse_divisions-above)

pub counts_next : {a m u v rest count : ℕ} → Counts a m u v count → 0 < v → rest ≡ u % v → Counts a m v rest (count + 1)
counts_next {u} {v} c p e = grind (arith, divisions-next)

pub final_count_is_inverse_divisions : {a m u v count : ℕ} → Counts a m u v count → v ≡ 0
    → count ≡ inverse_divisions a m
final_count_is_inverse_divisions {u} {v} c e = omega (arith, divisions-none u v e, c.total)
