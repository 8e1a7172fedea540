-- How many halvings and swaps the loop of the Jacobi symbol takes, and that these are few.
use Rattle.std.proofs.Common.{◌≡◌, ℕ, zero, suc, ◌+◌, ◌*◌, ◌/◌, ◌%◌, ◌^◌, ◌<◌, ◌≤◌}
use Rattle.std.proofs.Common.{sym, ◌∙◌, ap, refl, arith, ⊎_elim, ◌⊎◌, inl}
use Rattle.std.proofs.lemmas.Bool.Decides.{nat_tests}
use Rattle.std.proofs.lemmas.Nat.{mod_below, mul-lt, pow_pos}
use Rattle.std.proofs.Math.Nat.{mul-le-mul_left, pow-suc, mul-one}
use Rattle.modular_prim.proofs.FewSteps.{zero_or_positive, rest_twice, few_steps}
use Rattle.modular_symbols.specs.Steps.{steps_within, jacobi_steps}
use Rattle.modular_symbols.proofs.TwoPart.{Halved}
use Rattle.modular_symbols.proofs.JacobiLaws.{even_or_odd}

no_steps_at_zero : (k a n : ℕ) → a ≡ 0 → steps_within k a n ≡ 0
unfolding steps_within
no_steps_at_zero zero a n e = refl
no_steps_at_zero (suc k) a n e = grind (arith, nat_tests)

within_halved : (k a n : ℕ) → 0 < a → a % 2 ≡ 0 → steps_within (suc k) a n ≡ suc (steps_within k (a / 2) n)
unfolding steps_within
within_halved k a n p e = grind (arith, nat_tests)

within_swapped : (k a n : ℕ) → a % 2 ≡ 1 → steps_within (suc k) a n ≡ suc (steps_within k (n % a) a)
unfolding steps_within
within_swapped k a n e = grind (arith, nat_tests)

-- a larger bound changes nothing
steps_within_independent_of_bound : (k l a n : ℕ) → a ≤ k → a ≤ l → steps_within k a n ≡ steps_within l a n
steps_within_independent_of_bound zero l a n p q = no_steps_at_zero zero a n (omega arith)
    ∙ sym (no_steps_at_zero l a n (omega arith))
steps_within_independent_of_bound (suc k) zero a n p q = no_steps_at_zero (suc k) a n (omega arith)
    ∙ sym (no_steps_at_zero zero a n (omega arith))
steps_within_independent_of_bound (suc k) (suc l) a n p q =
    ⊎_elim
    (λ (e : a ≡ 0). no_steps_at_zero (suc k) _ _ e ∙ sym (no_steps_at_zero (suc l) _ _ e))
    (λ (z : 0 < a).
    ⊎_elim
    (λ (e : a % 2 ≡ 0). search (
      arith,
      within_halved,
      steps_within_independent_of_bound k l (a / 2) n (omega arith)
          (omega arith),
    ))
    (λ (o : a % 2 ≡ 1). search (
      arith,
      mod_below,
      within_swapped,
      steps_within_independent_of_bound k l (n % a) a
          (omega arith) (omega arith),
    ))
    (even_or_odd _))
    (zero_or_positive _)

-- ---- the equations of the count
pub jacobi_steps-none : (a n : ℕ) → a ≡ 0 → jacobi_steps a n ≡ 0
unfolding jacobi_steps
jacobi_steps-none a n e = no_steps_at_zero a a n e

jacobi_steps-halved : (a n : ℕ) → 0 < a → a % 2 ≡ 0 → jacobi_steps a n ≡ suc (jacobi_steps (a / 2) n)
unfolding jacobi_steps
jacobi_steps-halved a n p e =
    steps_within_independent_of_bound _ (suc a) _ _ (omega arith) (omega arith) ∙ within_halved _ _ _ p e
    ∙ ap suc (steps_within_independent_of_bound _ _ _ _ (omega arith) (omega arith))

jacobi_steps-swapped : (a n : ℕ) → a % 2 ≡ 1 → jacobi_steps a n ≡ suc (jacobi_steps (n % a) a)
unfolding jacobi_steps
jacobi_steps-swapped a n o =
    steps_within_independent_of_bound _ (suc a) _ _ (omega arith) (omega arith) ∙ within_swapped _ _ _ o
    ∙ ap suc (steps_within_independent_of_bound _ _ _ _ (omega arith) (omega arith))

-- z twos are halved away, then the odd part o changes its place
pub jacobi_steps-turn : (o z n : ℕ) → o % 2 ≡ 1 → jacobi_steps (o * 2 ^ z) n ≡ z + 1 + jacobi_steps (n % o) o
jacobi_steps-turn o zero n h = ap (λ v. jacobi_steps v n) (mul-one o) ∙ jacobi_steps-swapped o n h ∙ omega arith
jacobi_steps-turn o (suc z) n h =
    let p = ap (λ v. o * v) (pow-suc 2 z) in
    let q = mul-lt 0 0 o (2 ^ z) (omega arith) (pow_pos z) in
    search (arith, jacobi_steps-halved, jacobi_steps-turn o z n h)

-- ---- the bound
power_of_steps_within_bounded : (k a n : ℕ) → 0 < a → a < n → a ≤ k → 2 ^ steps_within k a n ≤ 2 * (a * n)
power_of_steps_within_bounded zero a n p l b = absurd (omega arith)
power_of_steps_within_bounded (suc k) a n p l b =
    ⊎_elim
    (λ (e : a % 2 ≡ 0).
    let i = power_of_steps_within_bounded k (a / 2) n (omega arith) (omega arith) (omega arith) in
    let s = ap (λ v. 2 ^ v) (within_halved k a n p e) in
    let t : a * n ≡ 2 * (a / 2) * n = ap (λ v. v * n) (omega arith) in
    omega arith)
    (λ (o : a % 2 ≡ 1).
    let s = ap (λ v. 2 ^ v) (within_swapped k a n o) in
    let q = mul-lt 0 0 a n p (omega arith) in
    ⊎_elim
    (λ (z : n % a ≡ 0). let w = ap (λ v. 2 ^ v) (no_steps_at_zero k (n % a) a z) in omega arith)
    (λ (z : 0 < n % a).
    let m = mod_below n a p in
    let i = power_of_steps_within_bounded k (n % a) a z m (omega arith) in
    let t = mul-le-mul_left a (rest_twice n a p (omega arith)) in
    omega arith)
    (zero_or_positive (n % a)))
    (even_or_odd a)

-- two to the number of steps is at most twice the product
pub jacobi_steps-power : (a n : ℕ) → 0 < a → a < n → 2 ^ jacobi_steps a n ≤ 2 * (a * n)
unfolding jacobi_steps
jacobi_steps-power a n p l = power_of_steps_within_bounded a a n p l (omega arith)

-- numbers of w bits take at most 2w steps
jacobi_steps-few : (w a n : ℕ) → a < n → n < 2 ^ w → jacobi_steps a n ≤ 2 * w
jacobi_steps-few w a n l h =
    ⊎_elim
    (λ (e : a ≡ 0). let f = jacobi_steps-none a n e in omega arith)
    (λ (p : 0 < a). few_steps w (jacobi_steps a n) a n (omega arith) h (jacobi_steps-power a n p l))
    (zero_or_positive a)

-- ---- the loop's count
-- `count` steps are done, and those from x over y are left; n fits w bits, since a turn has read it, if there was one
pub record Counts (w a n x y count : ℕ) : Type 0 where
  pub total : count + jacobi_steps x y ≡ jacobi_steps a n
  pub fits : ((count ≡ 0) × (y ≡ n)) ⊎ (n < 2 ^ w)

pub counts_start : (w a n : ℕ) → Counts w a n a n 0
counts_start w a n = record { total = omega arith; fits = inl (refl, refl) }

-- a turn, which is z halvings and a swap
pub counts_turn : (w base a n x y z o rest count : ℕ) → Counts w a n x y count → Halved x z o → rest ≡ y % o
    → base ≡ 2 ^ w → y < base → Counts w a n rest o (count + (z + 1))
counts_turn w base a n x y z o rest count c h e b l = search (arith, jacobi_steps-turn)

pub final_count_is_jacobi_steps : (w a n x y count : ℕ) → Counts w a n x y count → x ≡ 0 → count ≡ jacobi_steps a n
final_count_is_jacobi_steps w a n x y count c e = search (arith, jacobi_steps-none)

pub counts_few : (w a n x y count : ℕ) → Counts w a n x y count → a < n → count ≤ 2 * w
counts_few w a n x y count c l = search (arith, jacobi_steps-few)

-- the laws of the count of steps
pub ruleset step_laws = (jacobi_steps-none, jacobi_steps-turn, jacobi_steps-power)
