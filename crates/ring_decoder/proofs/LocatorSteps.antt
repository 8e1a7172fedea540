-- The steps of the search for a locator: with one number more the recurrence stays, its polynomial is corrected, or its
-- order grows. Where the numbers are u·x^h, the power sums of one point, it is u·(x - X) at the end, also where u·x is
-- 0.
use Rattle.std.proofs.Common.{Bool, true, false, cond, not, List, ◌≡◌, ◌≢◌, ℕ, zero, suc, ◌+◌, ◌-◌, ◌*◌, ◌%◌, ◌^◌, ◌<◌}
use Rattle.std.proofs.Common.{◌≤◌}
use Rattle.std.proofs.Common.{ap, sym, ◌∙◌, arith, refl, inl, inr, mod-eq_of_lt, add-one}
use Rattle.std.proofs.Math.Nat.{add-zero, pow-zero, pow-suc}
use Rattle.std.proofs.lemmas.Bool.{cases_eq, cases_lt}
use Rattle.num_modular.specs.Callers.{has_both}
use Rattle.num_modular.specs.Congruence.{Congruent}
use Rattle.num_modular.specs.Inverses.{HasInverse}
use Rattle.num_modular.specs.NumberLaws.{mod_of_eq, mod_sym, mod_trans, mod_add}
use Rattle.num_modular.specs.NumberLaws.{sum_below-joined}
use Rattle.num_modular.specs.Sums.{sum_below}
use Rattle.ring_codes.proofs.Congruences.{left_alone, has_one, mod_of_combination, mod_of_residue, mod_times}
use Rattle.ring_codes.proofs.NearestWords.{unit_alike}
use Rattle.ring_decoder.proofs.LocatorPlaces.{applied, massey_bound}
use Rattle.ring_decoder.proofs.LocatorSums.{factor_none, none_of, residue_none}
use Rattle.ring_decoder.specs.Locators.{NeedManyWeights, IsGeometric, IsLinear}
use Rattle.ring_decoder.specs.LocatorSteps.{IsSearch, IsSearchOfOne, IsCombined}
use Rattle.ring_decoder.proofs.SyndromeSums.{sum_congruent_to_zero}

-- coefficients of 0 behind the first c
applied_ignores_zero_coefficients : (m c n h : ℕ) (f t : ℕ → ℕ) → c ≤ n → ((l : ℕ) → c ≤ l → Congruent m (f l) 0)
    → Congruent m (applied n f t h) (applied c f t h)
applied_ignores_zero_coefficients m c n h f t within none =
    let whole : n ≡ c + (n - c) = omega arith in
    mod_of_combination (sum_congruent_to_zero m (n - c) (λ l. f (c + l) * t (h + (c + l)))
    (λ l b. mod_of_combination (mod_times (t (h + (c + l))) (none (c + l) (omega arith))) (omega arith)))
    (omega (arith, ap (λ k. applied k f t h) whole, sum_below-joined c (n - c) (λ l. f l * t (h + l))))

-- f = a·e - b·X^q·g, applied to numbers
combined_sum : (m a b q n h : ℕ) (e f g t : ℕ → ℕ) → ((k : ℕ) → k < n → IsCombined m a b q k (e k) (f k) g)
    → Congruent m (applied n f t h + b * applied (n - q) g t (h + q)) (a * applied n e t h)
unfolding sum_below
combined_sum m a b q zero h e f g t each =
    let none : 0 - q ≡ 0 = omega arith in mod_of_eq (omega (arith, ap (λ k. b * applied k g t (h + q)) none))
combined_sum m a b q (suc n) h e f g t each =
    let before = combined_sum m a b q n h e f g t (λ k l. each k (omega arith)) in let last = each n (omega arith) in
    elim (cases_lt n q) [
      | inl less ↦
          let same : suc n - q ≡ n - q = omega arith in
          mod_of_combination (mod_add before (mod_times (t (h + n)) (last.low less)))
          (omega (arith, ap (λ k. b * applied k g t (h + q)) same))
      | inr more ↦
          let next : suc n - q ≡ suc (n - q) = omega arith in let at : h + q + (n - q) ≡ h + n = omega arith in
          mod_of_combination (mod_add before (mod_times (t (h + n)) (last.high (n - q) (omega arith))))
          (omega (arith, ap (λ k. b * applied k g t (h + q)) next, ap (λ k. b * (g (n - q) * t k)) at))
    ]

-- .. is 0 where b·g and a·e are the same
combined_none : (m a b F G E u v : ℕ) → Congruent m (F + b * G) (a * E) → Congruent m G u → Congruent m E v
    → b * u ≡ a * v → Congruent m F 0
combined_none m a b F G E u v is at_g at_e same =
    mod_of_combination (mod_add is (mod_add (mod_times b (mod_sym at_g)) (mod_times a at_e))) (omega (arith, same))

-- what is 0 with a number that has an inverse has one
negative_unit : (m a b : ℕ) → Congruent m (a + b) 0 → HasInverse m b → HasInverse m a
negative_unit m a b none unit = ((has_both m a a).0 (unit_alike m (b * b) (a * a)
    (mod_of_combination (mod_add (mod_times b none) (mod_sym (mod_times a none))) (omega arith))
    ((has_both m b b).1 (unit, unit)))).0

-- polynomials with one and with two coefficients, applied to u·x^h
module _ {m N u x : ℕ} {t : ℕ → ℕ} (geometric : IsGeometric m N u x t) (s : ℕ → ℕ) where
  first_number : 0 < N → Congruent m (t 0) u
  first_number some = mod_of_combination (geometric.each 0 some) (omega (arith, ap (λ v. u * v) (pow-zero x)))

  one_term : 0 < N → Congruent m (s 0) 1 → Congruent m (applied 1 s t 0) u
  unfolding sum_below
  one_term some one = mod_of_combination (mod_add (mod_times (t 0) one) (first_number some)) (omega arith)

  two_terms : (h : ℕ) → h + 1 < N → Congruent m (applied 2 s t h) (t h * (s 0 + x * s 1))
  unfolding sum_below
  two_terms h l =
      let first = ap (λ k. s 0 * t k) (add-zero h) in
      let second = ap (λ v. s 1 * (u * v)) (ap (λ k. x ^ k) (add-one h) ∙ pow-suc x h) in
      mod_of_combination (mod_add (mod_times (s 1) (geometric.each (h + 1) l))
      (mod_times (s 1 * x) (mod_sym (geometric.each h (omega arith))))) (omega (arith, first, second))

module _ {m N i L p w : ℕ} {s b t : ℕ → ℕ} (found : IsSearch m N i L p w s b t) (h : ℕ) (inside : i < N)
    (at : h + L ≡ i) where
  -- the discrepancy is 0
  pub search_kept : L ≤ h → Congruent m (applied (L + 1) s t h) 0 → IsSearch m N (i + 1) L p w s b t
  search_kept half none = record {
    within = omega (arith, found.within);
    short = found.short;
    behind = found.behind;
    recurrence = record {
      sum = λ k l. elim (cases_eq k h) [
        | inl e ↦ rw e none
        | inr other ↦ found.recurrence.sum k (omega (arith, l, at, other))
      ];
    };
    least = found.least;
    behind_before = found.behind_before;
    behind_then = λ l b. found.behind_then l (omega (arith, b));
    recurrence_before = found.recurrence_before;
    pivot_there = found.pivot_there;
    units = found.units;
    nonzero = found.nonzero;
    of_one = λ u x geometric. elim (found.of_one u x geometric) [
      | inl start ↦
          let is_h : h ≡ 0 = omega (arith, start.0) in
          absurd (geometric.nonzero (residue_none m u (mod_trans (mod_sym (one_term geometric s (omega arith) start.2))
          (rw (start.1, is_h) at none))))
      | inr (inl first) ↦ absurd (omega (arith, first.0, first.1))
      | inr (inr after) ↦ inr (inr (omega (arith, after.0), after.1))
    ];
  }

  -- the polynomial is corrected
  module _ (q : ℕ) {d : ℕ} {f : ℕ → ℕ} (room : h + q + 1 ≡ L) (is : Congruent m (applied (L + 1) s t h) d)
      (each : (k : ℕ) → k < L + 1 → IsCombined m p d q k (s k) (f k) b) where
    corrected_sum : (k : ℕ) → k + L < i + 1 → Congruent m (applied (L + 1) f t k) 0
    corrected_sum k l =
        let whole : L + 1 - q ≡ h + 2 = omega arith in
        let both = rw whole at (combined_sum m p d q (L + 1) k s f b t each) in
        let none : (l : ℕ) → h + 1 ≤ l → Congruent m (b l) 0 = λ l k. found.behind_then l (omega (arith, k, at)) in
        let same = mod_trans (applied_ignores_zero_coefficients m (h + 1) (h + 2) (k + q) b t (omega arith) none)
        (mod_sym (applied_ignores_zero_coefficients m (h + 1) L (k + q) b t (omega arith) none)) in
        elim (cases_eq k h) [
          | inl e ↦ combined_none m p d _ _ _ _ _ both
              (mod_trans same (found.pivot_there (k + q) (omega (arith, e, room)))) (rw (← e) at is) (omega arith)
          | inr other ↦ combined_none m p d _ _ _ _ _ both
              (mod_trans same (found.recurrence_before (k + q) (omega (arith, l, at, room, other))))
              (found.recurrence.sum k (omega (arith, l, at, other))) (omega arith)
        ]

    corrected_one : (u x : ℕ) → IsGeometric m N u x t → IsSearchOfOne m (i + 1) L p u x f b
    corrected_one u x geometric = elim (found.of_one u x geometric) [
      | inl start ↦ absurd (omega (arith, start.1))
      | inr (inl first) ↦
          let is_h : h ≡ 0 = omega (arith, first.0, first.1) in
          let here : Congruent m (applied 2 s t 0) d = rw (first.1, is_h) at is in
          let at_d : Congruent m (d + u * x) 0 =
          mod_of_combination (mod_add (mod_sym here) (mod_add (two_terms geometric s 0 (omega (arith, first.0)))
          (mod_add (mod_times (t 0) first.2) (mod_add (mod_times (x * s 1) (first_number geometric s (omega arith)))
          (mod_times (u * x) first.3))))) (omega arith) in
          let linear : IsLinear m u x L f = record {
            degree = first.1;
            constant = mod_of_combination (mod_add ((each 0 (omega arith)).high 0 (omega (arith, first.1)))
                (mod_add (mod_times d (mod_sym first.4)) (mod_add (mod_times p first.2) (mod_sym at_d)))) (omega arith);
            leading = mod_of_combination (mod_add ((each 1 (omega (arith, first.1))).high 1 (omega (arith, first.1)))
                (mod_add (mod_times d (mod_sym (found.behind_before 1 (omega (arith, first.1)))))
                (mod_add (mod_times (s 1) first.5) (mod_times u first.3)))) (omega arith);
          } in
          inr (inr (omega (arith, first.0), linear))
      | inr (inr after) ↦ absurd (omega (arith, after.0, after.1.degree))
    ]

    pub search_corrected : ((k : ℕ) → L + 1 ≤ k → f k ≡ s k) → IsSearch m N (i + 1) L p w f b t
    search_corrected kept = record {
      within = omega (arith, found.within);
      short = found.short;
      behind = λ l k. mod_trans (mod_of_eq (kept l (omega (arith, k)))) (found.behind l k);
      recurrence = record { sum = corrected_sum };
      least = found.least;
      behind_before = found.behind_before;
      behind_then = λ l b. found.behind_then l (omega (arith, b));
      recurrence_before = found.recurrence_before;
      pivot_there = found.pivot_there;
      units = λ unit.
          let both = found.units unit in
          let alone = left_alone m (f L) d _ (p * s L) ((each L (omega arith)).high (h + 1) (omega arith))
          (found.behind_then _ (omega arith)) in
          (both.0, unit_alike m (p * s L) (f L) (mod_sym alone) ((has_both m p (s L)).1 both));
      nonzero = found.nonzero;
      of_one = corrected_one;
    }

  -- the order grows
  module _ (q : ℕ) {d : ℕ} {f : ℕ → ℕ} (room : q + L ≡ h + 1) (half : L ≤ h)
      (is : Congruent m (applied (L + 1) s t h) d) (other : d % m ≢ 0)
      (each : (k : ℕ) → k < h + 2 → IsCombined m d p q k (b k) (f k) s) where
    longer_sum : (k : ℕ) → k + (h + 1) < i + 1 → Congruent m (applied (h + 1 + 1) f t k) 0
    longer_sum k l =
        let whole : h + 1 + 1 - q ≡ L + 1 = omega arith in
        let both = rw whole at (combined_sum m d p q (h + 1 + 1) k b f s t (λ k l. each k (omega (arith, l)))) in
        let same = applied_ignores_zero_coefficients m L (h + 1 + 1) k b t (omega arith) found.behind_before in
        elim (cases_eq (k + 1) L) [
          | inl e ↦
              let there : h ≡ k + q = omega (arith, e, room) in
              combined_none m d p _ _ _ _ _ both (rw there at is) (mod_trans same (found.pivot_there k e)) (omega arith)
          | inr apart ↦ combined_none m d p _ _ _ _ _ both
              (found.recurrence.sum (k + q) (omega (arith, l, at, room, apart)))
              (mod_trans same (found.recurrence_before k (omega (arith, l, at, apart)))) (omega arith)
        ]

    longer_one : (u x : ℕ) → IsGeometric m N u x t → IsSearchOfOne m (i + 1) (h + 1) d u x f s
    longer_one u x geometric = elim (found.of_one u x geometric) [
      | inl start ↦
          let is_h : h ≡ 0 = omega (arith, start.0) in
          let here : Congruent m (applied 1 s t 0) d = rw (start.1, is_h) at is in
          inr (inl (
            omega (arith, start.0),
            omega (arith, is_h),
            mod_of_combination (mod_add ((each 0 (omega arith)).low (omega (arith, start.1)))
                (mod_times d (found.behind_before 0 (omega (arith, start.1))))) (omega arith),
            mod_of_combination (mod_add ((each 1 (omega arith)).high 0 (omega (arith, start.1, is_h)))
                (mod_add (mod_times d (found.behind_before 1 (omega (arith, start.1))))
                (mod_add (mod_times (s 0) (mod_sym start.3)) (mod_sym start.2)))) (omega arith),
            start.2,
            mod_trans (mod_sym here) (one_term geometric s (omega arith) start.2),
          ))
      | inr (inl first) ↦ absurd (omega (arith, first.0, first.1))
      | inr (inr after) ↦
          let here : Congruent m (applied 2 s t h) d = rw after.1.degree at is in
          absurd (other (residue_none m d (mod_of_combination (mod_add (mod_sym here)
          (mod_add (two_terms geometric s h (omega (arith, after.1.degree)))
          (mod_add (mod_times (t h) after.1.constant) (mod_times (t h * x) after.1.leading)))) (omega arith))))
    ]

    pub search_longer : {v : ℕ} → 0 < m → 2 * (h + 1) ≤ N → ((k : ℕ) → h + 2 ≤ k → f k ≡ b k)
        → (HasInverse m v → HasInverse m w × HasInverse m d) → (w ≢ 0 → v ≢ 0)
        → IsSearch m N (i + 1) (h + 1) d v f s t
    search_longer {v} positive short kept units nonzero =
        let whole : (k : ℕ) → Congruent m (applied (h + 1) s t k) (applied (L + 1) s t k) =
        λ k. applied_ignores_zero_coefficients m (L + 1) (h + 1) k s t (omega arith)
        (λ l b. found.behind l (omega (arith, b))) in
        record {
          within = omega arith;
          short = short;
          behind = λ l k. mod_trans (mod_of_eq (kept l (omega (arith, k))))
              (found.behind_before l (omega (arith, k, half)));
          recurrence = record { sum = longer_sum };
          least = record {
            each = λ n x w are.
                massey_bound positive are L s inside found.recurrence h at (λ e. other (sym is.same ∙ e));
          };
          behind_before = λ l k. found.behind l (omega (arith, k, half));
          behind_then = λ l k. found.behind l (omega (arith, k, at));
          recurrence_before = λ k l. mod_trans (whole k) (found.recurrence.sum k (omega (arith, l, at)));
          pivot_there = λ k e. let there : k ≡ h = omega (arith, e) in rw there (mod_trans (whole h) is);
          units = λ unit.
              let both = units unit in
              let none : Congruent m (f (h + 1) + p * s L) 0 =
              mod_of_combination (mod_add ((each (h + 1) (omega arith)).high L (omega arith))
              (mod_times d (found.behind_before (h + 1) (omega arith)))) (omega arith) in
              (both.1, negative_unit m (f (h + 1)) (p * s L) none ((has_both m p (s L)).1 (found.units both.0)));
          nonzero = λ some. nonzero (found.nonzero some);
          of_one = longer_one;
        }

  -- the order would be too large
  pub search_none : 0 < m → N < 2 * (h + 1) → applied (L + 1) s t h % m ≢ 0 → NeedManyWeights m N t
  search_none positive long other = record {
    each = λ n x w are. omega (arith, massey_bound positive are L s inside found.recurrence h at other, long);
  }

-- a witness that stays, since its product with another number is 0, has no inverse
pub witness_kept : (m w d p : ℕ) → d < m → d ≢ 0 → p ≡ (w * d) % m → p ≡ 0 → HasInverse m w → ⊥
witness_kept m w d p below some is none unit =
    let z = factor_none m d w unit (mod_of_combination (none_of m (w * d) (sym is ∙ none)) (omega arith)) in
    some (sym (mod-eq_of_lt below) ∙ residue_none m d z)

pub witness_more : (m w d p : ℕ) → p ≡ (w * d) % m → HasInverse m p → HasInverse m w × HasInverse m d
witness_more m w d p is unit = (has_both m w d).0 (unit_alike m p (w * d) (mod_of_residue is) unit)

-- before the first number
pub search_start : (m N p w : ℕ) (s b t : ℕ → ℕ) → 0 < m → s 0 ≡ 1 % m → ((l : ℕ) → l ≢ 0 → s l ≡ 0)
    → ((l : ℕ) → b l ≡ 0) → p ≡ 1 % m → w ≡ 1 % m → IsSearch m N 0 0 p w s b t
search_start m N p w s b t positive first others none is_p is_w =
    let one : HasInverse m (1 % m) = has_one m positive in
    record {
      within = omega arith;
      short = omega arith;
      behind = λ l k. mod_of_eq (others l (omega (arith, k)));
      recurrence = record { sum = λ h l. absurd (omega (arith, l)) };
      least = record { each = λ n x w are. omega arith };
      behind_before = λ l k. mod_of_eq (none l);
      behind_then = λ l k. mod_of_eq (none l);
      recurrence_before = λ h l. absurd (omega (arith, l));
      pivot_there = λ h e. absurd (omega (arith, e));
      units = λ unit. (rw is_p one, rw first one);
      nonzero = λ other e.
          let small : 1 % m ≡ 1 = mod-eq_of_lt (let two : 1 < m = omega (arith, positive, other) in two) in
          absurd (omega (arith, is_w, small, e));
      of_one = λ u x geometric. inl (refl, refl, mod_of_residue first, mod_of_residue is_p);
    }

pub all_none : (b : ℕ → ℕ) → b 0 ≡ 0 → ((l : ℕ) → l ≢ 0 → b l ≡ 0) → (l : ℕ) → b l ≡ 0
all_none b first others l = elim (cases_eq l 0) [ inl e ↦ ap b e ∙ first | inr other ↦ others l other ]

-- two lists that changed places
pub negated_condition_swaps_lists : {T : Type 0} (b : Bool) (P : List T → List T → Type 0) (x y : List T)
    → P (cond b y x) (cond b x y)
    → P (cond (not b) x y) (cond (not b) y x)
negated_condition_swaps_lists true P x y h = h
negated_condition_swaps_lists false P x y h = h
