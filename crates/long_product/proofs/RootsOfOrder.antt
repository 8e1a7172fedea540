-- A transform by the inverse of a root of order n takes the transform by the root back to n times the values.
use Rattle.std.proofs.Common.{subst, ◌≡◌, ◌≢◌, ℕ, zero, suc, ◌+◌, ◌-◌, ◌*◌, ◌%◌, ◌^◌, ◌<◌, ◌≤◌, inl, inr}
use Rattle.std.proofs.Common.{sym, ◌∙◌, ap, arith, refl, ◌↔◌}
use Rattle.std.specs.Prelude.{Option, Some, None, IsTrue}
use Rattle.std.specs.Option.{is_some}
use Rattle.std.proofs.Math.Nat.{pow-suc, pow-zero, zero-mod, mod-lt, add-mod_right}
use Rattle.std.proofs.lemmas.Bool.{cases_lt}
use Rattle.std.proofs.lemmas.Nat.{pow-add, mul-pow}
use Rattle.num_modular.specs.Congruence.{Congruent}
use Rattle.num_modular.specs.Inverses.{HasInverse, IsInversion}
use Rattle.num_modular.specs.NumberLaws.{mod_of_eq, mod_refl, mod_sym, mod_trans, mod_add, mod_mul, mod_pow}
use Rattle.num_modular.specs.NumberLaws.{mod_add_cancel, residue_of, one-pow, pow-mul}
use Rattle.num_modular.specs.NumberLaws.{sum_below-zero, sum_below-suc, sum_below-same}
use Rattle.num_modular.specs.NumberLaws.{sum_below-congruent, sum_below-mul, sum_below-exchanged, sum_below-of_constant}
use Rattle.num_modular.specs.SumLaws.{single}
use Rattle.num_modular.specs.Sums.{sum_below}
use Rattle.num_modular.specs.Transforms.{transform}
use Rattle.long_product.specs.AnyLength.{IsRootOfOrder, scaled_transform}
use Rattle.long_product.proofs.Bluestein.{powers_of_inverses_cancel}

-- the geometric series
geometric_sum : (n a : ℕ) → a * sum_below n (λ j. a ^ j) + 1 ≡ sum_below n (λ j. a ^ j) + a ^ n
geometric_sum zero a = search (arith, sum_below-zero, pow-zero)
geometric_sum (suc n) a =
    let s = sum_below-suc n (λ j. a ^ j) in
    omega (arith, geometric_sum n a, s, ap (λ v. a * v) s, pow-suc a n)

-- what a number times a unit is congruent to 0 with, is congruent to 0
pub unit_cofactor_congruent_to_zero : {m : ℕ} (t u s : ℕ) → (t * u) % m ≡ 1 % m → Congruent m (t * s) 0
    → Congruent m s 0
unit_cofactor_congruent_to_zero {m} t u s unit none =
    let one : Congruent m (t * u) 1 = record { same = unit } in
    mod_trans (mod_of_eq (omega arith)) (mod_trans (mod_mul (mod_refl s) (mod_sym one))
    (mod_trans (mod_of_eq (omega arith)) (mod_trans (mod_mul none (mod_refl u)) (mod_of_eq (omega arith)))))

-- where 0 is congruent to 1, every number is congruent to 0
all_congruent_to_zero : {m : ℕ} (s : ℕ) → Congruent m 0 1 → Congruent m s 0
all_congruent_to_zero {m} s nothing = search (arith, mod_trans, mod_of_eq, mod_mul, mod_refl, mod_sym)

-- the root's powers return after n steps
power_of_root_turns_whole : {m : ℕ} (g n d : ℕ) → g ^ n % m ≡ 1 % m → Congruent m ((g ^ d) ^ n) 1
power_of_root_turns_whole {m} g n d whole =
    let turn : Congruent m (g ^ n) 1 = record { same = whole } in
    mod_trans (mod_of_eq (sym (pow-mul g d n) ∙ ap (λ k. g ^ k) (omega arith) ∙ pow-mul g n d))
    (mod_trans (mod_pow d turn) (mod_of_eq (one-pow d)))

-- so where a power is 0, 0 is congruent to 1
pub zero_is_one_where_power_vanishes : {m : ℕ} (g n d : ℕ) → g ^ n % m ≡ 1 % m → 0 < n → g ^ d ≤ 0 → Congruent m 0 1
zero_is_one_where_power_vanishes {m} g n d whole some none =
    let a = g ^ d in
    let k : ℕ = n - 1 in
    let z : a ≡ 0 = omega arith in
    let zero_power : a ^ n ≡ 0 = ap (λ i. a ^ i) (omega arith) ∙ pow-suc a k ∙ ap (λ v. a ^ k * v) z ∙ omega arith in
    mod_trans (mod_of_eq (sym zero_power)) (power_of_root_turns_whole g n d whole)

-- what a power of the root does not change, is congruent to 0
pub kept_by_power_vanishes : {m g n : ℕ} (d s : ℕ) → IsRootOfOrder m g n → 0 < d → d < n → Congruent m (g ^ d * s) s
    → Congruent m s 0
kept_by_power_vanishes {m} {g} {n} d s root some few same =
    let a = g ^ d in
    let unit = root.no_shorter d some few in
    elim (cases_lt 0 a) [
      | inl l ↦
          let t : a * s ≡ (a - 1) * s + s = ap (λ v. v * s) (let e : a ≡ a - 1 + 1 = omega arith in e) ∙ omega arith in
          unit_cofactor_congruent_to_zero (a - 1) unit.0 s unit.1.one
          (mod_add_cancel s (mod_trans (mod_of_eq (sym t)) (mod_trans same (mod_of_eq (omega arith)))))
      | inr l ↦ all_congruent_to_zero s (zero_is_one_where_power_vanishes g n d root.whole_turn (omega arith) l)
    ]

-- the sum of the powers of g^d is 0
sum_of_root_powers_vanishes : {m g n : ℕ} (d : ℕ) → IsRootOfOrder m g n → 0 < d → d < n
    → Congruent m (sum_below n (λ j. (g ^ d) ^ j)) 0
sum_of_root_powers_vanishes {m} {g} {n} d root some few =
    let s = sum_below n (λ j. (g ^ d) ^ j) in
    kept_by_power_vanishes d s root some few (mod_add_cancel 1 (mod_trans (mod_of_eq (geometric_sum n (g ^ d)))
    (mod_add (mod_refl s) (power_of_root_turns_whole g n d root.whole_turn))))

-- g^i times h^k, for an inverse h of g, is a power of g between g^0 and g^n
record IsBetween (m g n v : ℕ) : Type 0 where
  exponent : ℕ
  some : 0 < exponent
  few : exponent < n
  same : Congruent m v (g ^ exponent)

power_quotient_is_between : {m n : ℕ} (g h i k : ℕ) → Congruent m (g * h) 1 → IsRootOfOrder m g n → i < n → k < n
    → i ≢ k
    → IsBetween m g n (g ^ i * h ^ k)
power_quotient_is_between {m} {n} g h i k one root li lk other = elim (cases_lt k i) [
  | inl l ↦
      let d : ℕ = i - k in
      let p : g ^ i * h ^ k ≡ g ^ d * (g ^ k * h ^ k) =
      ap (λ v. v * h ^ k) (ap (λ j. g ^ j) (omega arith) ∙ pow-add g d k) ∙ omega arith in
      let o : g ^ d * 1 ≡ g ^ d = omega arith in
      record {
        exponent = d;
        some = omega arith;
        few = omega arith;
        same = mod_trans (mod_of_eq p) (mod_trans (mod_mul (mod_refl (g ^ d)) (powers_of_inverses_cancel g h k one))
            (mod_of_eq o));
      }
  | inr l ↦
      let c : ℕ = k - i in
      let d : ℕ = n - c in
      let turn : Congruent m 1 (g ^ n) = record { same = sym root.whole_turn } in
      let p : g ^ i * h ^ k ≡ g ^ i * h ^ i * h ^ c =
      ap (λ v. g ^ i * v) (ap (λ j. h ^ j) (omega arith) ∙ pow-add h i c) ∙ omega arith in
      let q : g ^ n * h ^ c ≡ g ^ d * (g ^ c * h ^ c) =
      ap (λ v. v * h ^ c) (ap (λ j. g ^ j) (omega arith) ∙ pow-add g d c) ∙ omega arith in
      let o : g ^ d * 1 ≡ g ^ d = omega arith in
      record {
        exponent = d;
        some = omega arith;
        few = omega arith;
        same =
            mod_trans (mod_of_eq p) (mod_trans (mod_mul (mod_trans (powers_of_inverses_cancel g h i one) turn)
            (mod_refl (h ^ c)))
            (mod_trans (mod_of_eq q) (mod_trans (mod_mul (mod_refl (g ^ d)) (powers_of_inverses_cancel g h c one))
            (mod_of_eq o))));
      }
]

-- the product of two powers with a common factor in the exponents
powers_of_both_joined : (g h i j k : ℕ) → g ^ (i * j) * h ^ (j * k) ≡ (g ^ i * h ^ k) ^ j
powers_of_both_joined g h i j k =
    let e : j * k ≡ k * j = omega arith in
    ap (λ v. v * h ^ (j * k)) (pow-mul g i j) ∙ ap (λ v. (g ^ i) ^ j * v) (ap (λ c. h ^ c) e ∙ pow-mul h k j)
    ∙ sym (mul-pow (g ^ i) (h ^ k) j)

-- the sum of g^(i * j) * h^(j * k) over j: 0, except for i = k ..
other_places : {m n : ℕ} (g h i k : ℕ) → Congruent m (g * h) 1 → IsRootOfOrder m g n → i < n → k < n → i ≢ k
    → Congruent m (sum_below n (λ j. g ^ (i * j) * h ^ (j * k))) 0
other_places {m} {n} g h i k one root li lk other =
    let is = power_quotient_is_between g h i k one root li lk other in
    mod_trans (sum_below-congruent n (λ j. g ^ (i * j) * h ^ (j * k)) (λ j. (g ^ is.exponent) ^ j)
    (λ j l. mod_trans (mod_of_eq (powers_of_both_joined g h i j k)) (mod_pow j is.same)))
    (sum_of_root_powers_vanishes is.exponent root is.some is.few)

-- .. where it is n
same_place : {m : ℕ} (g h n k : ℕ) → Congruent m (g * h) 1
    → Congruent m (sum_below n (λ j. g ^ (k * j) * h ^ (j * k))) n
same_place {m} g h n k one =
    mod_trans (search (
      arith,
      sum_below-congruent,
      mod_trans,
      mod_of_eq,
      powers_of_both_joined,
      mod_pow,
      powers_of_inverses_cancel,
      one-pow,
    ))
    (mod_of_eq (sum_below-of_constant n 1 ∙ omega arith))

-- g and h have the sums of both orders of a root and its inverse
pub record AreOpposite (m g h n : ℕ) : Type 0 where
  pub same : (k : ℕ) → k < n → Congruent m (sum_below n (λ j. g ^ (k * j) * h ^ (j * k))) n
  pub other : (i k : ℕ) → i < n → k < n → i ≢ k → Congruent m (sum_below n (λ j. g ^ (i * j) * h ^ (j * k))) 0

pub root_and_inverse_are_opposite : {m g h n : ℕ} → Congruent m (g * h) 1 → IsRootOfOrder m g n → AreOpposite m g h n
root_and_inverse_are_opposite {m} {g} {h} {n} one root = search (arith, same_place, other_places)

pub opposite_sym : {m g h n : ℕ} → AreOpposite m g h n → AreOpposite m h g n
opposite_sym {m} {g} {h} {n} are =
    let swap = λ (i k : ℕ). sum_below-same n (λ j. h ^ (i * j) * g ^ (j * k)) (λ j. g ^ (k * j) * h ^ (j * i))
    (λ j l.
    let a : i * j ≡ j * i = omega arith in
    let b : j * k ≡ k * j = omega arith in
    ap (λ c. h ^ c * g ^ (j * k)) a ∙ ap (λ c. h ^ (j * i) * g ^ c) b ∙ omega arith) in
    record {
      same = λ k l. mod_trans (mod_of_eq (swap k k)) (are.same k l);
      other = λ i k li lk ne. mod_trans (mod_of_eq (swap i k))
          (are.other k i lk li (λ e. ne (sym e)));
    }

-- entry k of the transform back, by the values
back_sum : (n k g h : ℕ) (x : ℕ → ℕ)
    → sum_below n (λ j. sum_below n (λ i. x i * g ^ (i * j)) * h ^ (j * k))
    ≡ sum_below n (λ i. x i * sum_below n (λ j. g ^ (i * j) * h ^ (j * k)))
back_sum n k g h x =
    sum_below-same n (λ j. sum_below n (λ i. x i * g ^ (i * j)) * h ^ (j * k))
    (λ j. sum_below n (λ i. x i * (g ^ (i * j) * h ^ (j * k))))
    (λ j l.
    let s = sum_below-mul n (h ^ (j * k)) (λ i. x i * g ^ (i * j)) in
    search (arith, sum_below-same))
    ∙ sum_below-exchanged n n (λ j i. x i * (g ^ (i * j) * h ^ (j * k)))
    ∙ sum_below-same n (λ i. sum_below n (λ j. x i * (g ^ (i * j) * h ^ (j * k))))
    (λ i. x i * sum_below n (λ j. g ^ (i * j) * h ^ (j * k)))
    (λ i l. sum_below-mul n (x i) (λ j. g ^ (i * j) * h ^ (j * k)))

-- values y that are congruent to a transform, taken back
pub taken_back : {m g h : ℕ} (n k : ℕ) (x y : ℕ → ℕ) → AreOpposite m g h n → k < n
    → ((j : ℕ) → j < n → Congruent m (y j) (sum_below n (λ i. x i * g ^ (i * j))))
    → Congruent m (sum_below n (λ j. y j * h ^ (j * k))) (n * x k)
taken_back {m} {g} {h} n k x y are within is =
    let t = λ (i : ℕ). sum_below n (λ j. g ^ (i * j) * h ^ (j * k)) in
    let o : x k * n ≡ n * x k = omega arith in
    mod_trans (search (arith, sum_below-congruent, mod_mul, mod_refl))
    (mod_trans (mod_of_eq (back_sum n k g h x))
    (mod_trans (sum_below-congruent n (λ i. x i * t i) (λ i. x i * (t i % m))
    (λ i l. mod_mul (mod_refl (x i)) (mod_sym (residue_of (t i)))))
    (mod_trans (mod_of_eq (single n k (λ i. x i * (t i % m)) within
    (λ i l ne. ap (λ v. x i * v) ((are.other i k l within ne).same ∙ zero-mod m) ∙ omega arith)))
    (mod_trans (mod_mul (mod_refl (x k)) (mod_trans (residue_of (t k)) (are.same k within))) (mod_of_eq o)))))

-- .. times an inverse of n
inverse_restores_scaled_value : {m : ℕ} (n part s v : ℕ) → (n * part) % m ≡ 1 % m → Congruent m s (n * v)
    → Congruent m (part * s) v
inverse_restores_scaled_value {m} n part s v inverse is =
    let one : Congruent m (n * part) 1 = record { same = inverse } in
    mod_trans (mod_mul (mod_refl part) is) (mod_trans (mod_of_eq (omega arith))
    (mod_trans (mod_mul one (mod_refl v)) (mod_of_eq (omega arith))))

-- values y with the residues of a transform by g, taken back by what an inverse transform computes
pub transform_undone : (m g h part n i : ℕ) (x y : ℕ → ℕ) → (g * h) % m ≡ 1 % m → (n * part) % m ≡ 1 % m
    → IsRootOfOrder m g n → i < n → ((j : ℕ) → j < n → transform m g n x j ≡ y j % m)
    → scaled_transform m part h n y i ≡ x i % m
transform_undone m g h part n i x y inverse of_length root within is =
    (inverse_restores_scaled_value n part (sum_below n (λ j. y j * h ^ (j * i))) (x i) of_length
    (taken_back n i x y (root_and_inverse_are_opposite (record { same = inverse }) root) within
    (λ j l. record { same = sym (is j l) }))).same

-- the transform by g of what an inverse transform computes
pub inverse_undone : (m g h part n j : ℕ) (x : ℕ → ℕ) → (g * h) % m ≡ 1 % m → (n * part) % m ≡ 1 % m
    → IsRootOfOrder m g n → j < n → transform m g n (scaled_transform m part h n x) j ≡ x j % m
inverse_undone m g h part n j x inverse of_length root within =
    let one : Congruent m (n * part) 1 = record { same = of_length } in
    (mod_trans (taken_back n j (λ k. part * x k) (scaled_transform m part h n x)
    (opposite_sym (root_and_inverse_are_opposite (record { same = inverse }) root)) within
    (λ i l.
    let f = λ (k : ℕ). x k * h ^ (k * i) in
    mod_trans (residue_of (part * sum_below n f))
    (mod_of_eq (sym (sum_below-mul n part f)
    ∙ sum_below-same n (λ k. part * f k) (λ k. part * x k * h ^ (k * i)) (λ k t. omega arith)))))
    (mod_trans (mod_of_eq (omega arith)) (mod_trans (mod_mul one (mod_refl (x j))) (mod_of_eq (omega arith))))).same

-- congruent numbers have inverses together
unit_same : (m a b : ℕ) → a % m ≡ b % m → HasInverse m a → HasInverse m b
unit_same m a b e unit = search (arith, mod_mul, mod_refl)

-- where 0 is congruent to 1, every number has an inverse
every_unit : (m a : ℕ) → 1 ≤ m → Congruent m 0 1 → HasInverse m a
every_unit m a some nothing = search arith

-- g^d - 1, computed below the modulus
difference_same : (m a : ℕ) → 1 ≤ m → 0 < a → (a + (m - 1)) % m ≡ (a - 1) % m
difference_same m a some l = grind (arith, add-mod_right)

-- whether the differences with exponents from 1 to d - 1 have inverses, by their product
pub residue_is_first_power : (m g : ℕ) → g % m ≡ g ^ 1 % m
residue_is_first_power m g = search (arith, pow-suc, pow-zero)

pub units_none : (m g a : ℕ) → 1 ≤ m → a ≡ 1 % m
    → HasInverse m a ↔ ((e : ℕ) → 1 ≤ e → e < 1 → HasInverse m (g ^ e + (m - 1)))
units_none m g a some is = (
  λ h e l k. absurd (omega arith),
  λ h. (
    a,
    search (arith, mod-lt, mod_mul),
  ),
)

pub units_more : (m g d power product difference next : ℕ) → 1 ≤ d
    → ((m a b : ℕ) → HasInverse m (a * b) ↔ (HasInverse m a × HasInverse m b))
    → power ≡ g ^ d % m → difference ≡ (power + (m - 1)) % m → next ≡ (product * difference) % m
    → (HasInverse m product ↔ ((e : ℕ) → 1 ≤ e → e < d → HasInverse m (g ^ e + (m - 1))))
    → HasInverse m next ↔ ((e : ℕ) → 1 ≤ e → e < d + 1 → HasInverse m (g ^ e + (m - 1)))
units_more m g d power product difference next some both is_power is_difference is_next before =
    let v = g ^ d + (m - 1) in
    let same : difference % m ≡ v % m =
    ap (λ w. w % m) is_difference ∙ (residue_of (power + (m - 1))).same
    ∙ ap (λ w. (w + (m - 1)) % m) is_power ∙ (mod_add (residue_of (g ^ d)) (mod_refl (m - 1))).same in
    let whole : next % m ≡ (product * difference) % m =
    ap (λ w. w % m) is_next ∙ (residue_of (product * difference)).same in
    let parts = both m product difference in (
      λ h e l k.
          let each = parts.0 (unit_same m next (product * difference) whole h) in
          elim (cases_lt e d) [
            | inl below ↦ before.0 each.0 e l below
            | inr above ↦
                let here : d ≡ e = omega arith in
                subst (λ i. HasInverse m (g ^ i + (m - 1))) here (unit_same m difference v same each.1)
          ],
      λ h. unit_same m (product * difference) next (sym whole)
          (parts.1 (
            before.1 (λ e l k. h e l (omega arith)),
            unit_same m v difference (sym same) (h d some (omega arith)),
          )),
    )

pub root_found : (m g n power product : ℕ) → 1 ≤ m → 1 ≤ n → power ≡ g ^ n % m
    → (HasInverse m product ↔ ((e : ℕ) → 1 ≤ e → e < n → HasInverse m (g ^ e + (m - 1))))
    → power ≡ 1 % m → HasInverse m product → IsRootOfOrder m g n
root_found m g n power product modulus some is_power units one unit =
    let whole = sym is_power ∙ one in
    record {
      some = some;
      whole_turn = whole;
      no_shorter = λ d l k. elim (cases_lt 0 (g ^ d)) [
        | inl p ↦
            unit_same m (g ^ d + (m - 1)) (g ^ d - 1) (difference_same m (g ^ d) modulus p) (units.0 unit d l k)
        | inr z ↦ every_unit m (g ^ d - 1) modulus (zero_is_one_where_power_vanishes g n d whole (omega arith) z)
      ];
    }

pub difference_product_has_inverse : (m g n product : ℕ) → 1 ≤ m
    → (HasInverse m product ↔ ((e : ℕ) → 1 ≤ e → e < n → HasInverse m (g ^ e + (m - 1))))
    → IsRootOfOrder m g n → HasInverse m product
difference_product_has_inverse m g n product modulus units root =
    units.1 (λ d l k. elim (cases_lt 0 (g ^ d)) [
      | inl p ↦
          unit_same m (g ^ d - 1) (g ^ d + (m - 1)) (sym (difference_same m (g ^ d) modulus p)) (root.no_shorter d l k)
      | inr z ↦ every_unit m (g ^ d + (m - 1)) modulus (zero_is_one_where_power_vanishes g n d root.whole_turn root.some
          z)
    ])

-- whether an inverse was found
pub has_inverse_iff_found : (m a : ℕ) (found : Option ℕ) → IsInversion (λ x. x) m a found
    → HasInverse m a ↔ IsTrue (is_some found)
has_inverse_iff_found m a (Some x) is = (λ h. refl, λ t. (x, is))
has_inverse_iff_found m a None none = (λ h. absurd (none h.0 h.1), λ t. absurd (cc t))
