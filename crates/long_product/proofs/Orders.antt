-- A root of order n modulo m has n different powers, none of them 0, so that n is below m.
use Rattle.std.proofs.Common.{◌*◌}
use Rattle.std.proofs.Common.{◌≡◌, ◌≢◌, ℕ, zero, suc, ◌+◌, ◌-◌, ◌%◌, ◌^◌, ◌<◌, ◌≤◌, sym, ◌∙◌, ap, arith, cond, eqb}
use Rattle.std.proofs.Math.Nat.{mod-lt, mod-eq_of_lt, zero-mod}
use Rattle.std.proofs.lemmas.Bool.Decides.{eqb_tells}
use Rattle.std.proofs.lemmas.Nat.{pow-add}
use Rattle.num_modular.specs.Congruence.{Congruent}
use Rattle.num_modular.specs.NumberLaws.{mod_of_eq, mod_refl, mod_trans, mod_mul, mod_sym}
use Rattle.long_product.specs.AnyLength.{IsRootOfOrder}
use Rattle.long_product.proofs.RootsOfOrder.{kept_by_power_vanishes}

-- different numbers below a bound are at most as many
distinct_values_at_most_bound : (most size : ℕ) (f : ℕ → ℕ) → ((i : ℕ) → i < size → f i < most)
    → ((i j : ℕ) → i < j → j < size → f i ≢ f j) → size ≤ most
distinct_values_at_most_bound zero zero f below apart = omega arith
distinct_values_at_most_bound zero (suc size) f below apart = let l = below 0 (omega arith) in absurd (omega (arith, l))
distinct_values_at_most_bound (suc most) zero f below apart = omega arith
distinct_values_at_most_bound (suc most) (suc size) f below apart =
    let last = below size (omega arith) in
    let l = distinct_values_at_most_bound most size (λ i. cond (eqb (f i) most) (f size) (f i))
    (λ i k. search (arith, eqb_tells))
    (λ i j k t. search (arith, eqb_tells)) in
    omega (arith, l)

-- where a power up to n is 0, 0 is congruent to 1 ..
one_vanishes_with_power : {m : ℕ} (g n i : ℕ) → g ^ n % m ≡ 1 % m → i ≤ n → Congruent m (g ^ i) 0 → Congruent m 0 1
one_vanishes_with_power {m} g n i whole few none =
    let k : ℕ = n - i in
    let p : g ^ n ≡ g ^ k * g ^ i = ap (λ j. g ^ j) (omega arith) ∙ pow-add g k i in
    mod_trans (mod_of_eq (sym (omega arith))) (mod_trans (mod_mul (mod_refl (g ^ k)) (mod_sym none))
    (mod_trans (mod_of_eq (sym p)) (record { same = whole })))

-- .. and where two of them are congruent
power_twice : {m g n : ℕ} (i d : ℕ) → IsRootOfOrder m g n → 0 < d → i + d < n → Congruent m (g ^ (i + d)) (g ^ i)
    → Congruent m 0 1
power_twice {m} {g} {n} i d root some few same =
    one_vanishes_with_power g n i root.whole_turn (omega arith) (kept_by_power_vanishes d (g ^ i) root some
    (omega arith)
    (mod_trans (mod_of_eq (omega (arith, pow-add g i d))) same))

zero_and_one_differ : (m : ℕ) → 1 < m → Congruent m 0 1 → ⊥
zero_and_one_differ m more is = let s : 0 ≡ 1 = sym (zero-mod m) ∙ is.same ∙ mod-eq_of_lt more in
    absurd (omega (arith, s))

-- modulo a number above 1 the order is below it
pub order_below : (m g n : ℕ) → 2 ≤ m → IsRootOfOrder m g n → n < m
order_below m g n more root =
    let some : 0 < m = omega (arith, more) in
    let f = λ (i : ℕ). g ^ i % m in
    let apart_from_zero : (i : ℕ) → i < n → f i ≢ 0 = λ i l e.
    zero_and_one_differ m more (one_vanishes_with_power g n i root.whole_turn (omega (arith, l)) (record {
      same =
          e ∙ sym (zero-mod m);
    })) in
    let l = distinct_values_at_most_bound (m - 1) n (λ i. f i - 1)
    (λ i l. let b = mod-lt (g ^ i) some in let o = apart_from_zero i l in omega (arith, b, o, more))
    (λ i j l k e.
    let first = apart_from_zero i (omega (arith, l, k)) in
    let second = apart_from_zero j k in
    let d : ℕ = j - i in
    let whole : i + d ≡ j = omega arith in
    let same : f j ≡ f i = omega (arith, e, first, second) in
    zero_and_one_differ m more (power_twice i d root (omega (arith, l)) (omega (arith, whole, k))
    (record { same = ap (λ v. g ^ v % m) whole ∙ same }))) in
    omega (arith, l, more)
