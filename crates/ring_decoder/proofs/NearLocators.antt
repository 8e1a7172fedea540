-- What the locator says of errors that are few: its values are 0 at each place where an error isn't.
use Rattle.std.proofs.Common.{◌≡◌, ◌≢◌, ℕ, zero, suc, ◌+◌, ◌-◌, ◌*◌, ◌%◌, ◌^◌, ◌<◌, ◌≤◌, cond, eqb, pos, ◌-ℤ◌}
use Rattle.std.proofs.Common.{List, length, slice_index, false, ap, sym, ◌∙◌, subst, arith, refl, inl, inr}
use Rattle.std.proofs.Common.{mod-eq_of_lt}
use Rattle.std.proofs.lemmas.Bool.{cases_eq, cases_lt, false≢true}
use Rattle.num_modular.specs.Congruence.{Congruent}
use Rattle.num_modular.specs.Inverses.{HasInverse}
use Rattle.num_modular.specs.NumberLaws.{mod_of_eq, mod_sym, mod_trans, mod_add}
use Rattle.num_modular.specs.NumberLaws.{sum_below-zero, sum_below-suc, sum_below-of_zeros}
use Rattle.num_modular.specs.Polynomials.{polynomial_at, HaveUnitDifferences}
use Rattle.num_modular.specs.PolynomialLaws.{polynomial-first}
use Rattle.num_modular.specs.ProductLaws.{has_product}
use Rattle.num_modular.specs.Residues.{residue}
use Rattle.num_modular.specs.Callers.{same_coefficients}
use Rattle.ring_codes.proofs.Distances.{counted, counted_same, counted_other, near_words_agree_at_selection, rising_fit}
use Rattle.ring_codes.proofs.NearestWords.{no_value, unit_residue_is_nonzero}
use Rattle.ring_codes.proofs.NewtonForms.{no_difference, product-none, has_of_residue}
use Rattle.ring_decoder.proofs.ChosenPlaces.{zeros_others, chosen_zero, chosen_nonzero}
use Rattle.ring_decoder.proofs.LocatorPlaces.{weights_vanish}
use Rattle.ring_decoder.proofs.LostPlaces.{is_lost, lost_or_listed, without_lost, without_listed, lost_at, is_lost_at}
use Rattle.ring_decoder.proofs.LostPlaces.{sum_at_most_one_more, few_hidden, distance_alike, same_at}
use Rattle.ring_decoder.proofs.LostPlaces.{listed_none, value_without_lost_is_zero}
use Rattle.ring_decoder.specs.Corrector.{without, AreLost}
use Rattle.ring_decoder.specs.ErrorPatterns.{listed_weight, IsNearPattern, zeros, Covers, AreLocatorValues, IsLocated}
use Rattle.ring_decoder.specs.Locators.{IsLocator, NeedManyWeights, IsGeometric, IsLinear}
use Rattle.ring_decoder.specs.PowerSums.{ArePowerSums, hamming_weight}
use Rattle.ring_codes.specs.Roots.{product_of_differences}
use Rattle.ring_codes.proofs.Congruences.{mod_of_combination, mod_of_difference, mod_times}
use Rattle.ring_decoder.proofs.LocatorSums.{factor_none, hamming_weight_monotone, none_of, residue_none}
use Rattle.ring_codes.proofs.Roots.{constant_value}
use Rattle.ring_decoder.proofs.SyndromeSums.{single_congruent}

-- of weights of which one isn't 0 all others are
the_weight : (m n : ℕ) (a : ℕ → ℕ) → hamming_weight m n a ≡ 1
    → (j : ℕ) × (j < n) × (a j % m ≢ 0) × ((i : ℕ) → i < n → i ≢ j → a i % m ≡ 0)
the_weight m zero a one = absurd (omega (arith, one, sum_below-zero (λ i. counted (a i % m) 0)))
the_weight m (suc n) a one =
    let s = sum_below-suc n (λ i. counted (a i % m) 0) in
    elim (cases_eq (a n % m) 0) [
      | inl e ↦
          let at = the_weight m n a (omega (arith, s, one, counted_same (a n % m) 0 e)) in (
            at.0,
            omega (arith, at.1),
            at.2,
            λ i l other. elim (cases_eq i n) [
              | inl same ↦ rw same e
              | inr before ↦ at.3 i (omega arith) other
            ],
          )
      | inr o ↦
          let none : hamming_weight m n a ≤ 0 = omega (arith, s, one, counted_other (a n % m) 0 o) in
          (n, omega arith, o, λ i l other. same_at n i (λ i. a i % m) (λ i. 0) none (omega arith))
    ]

-- the values of u·(a - X)
linear_value : (m L u a X : ℕ) (p : ℕ → ℕ) → IsLinear m u a L p → Congruent m (polynomial_at 2 p X + u * X) (u * a)
linear_value m L u a X p is =
    mod_of_combination (mod_add (mod_times X is.leading) is.constant)
    (omega (arith, polynomial-first 1 p X, ap (λ v. X * v) (constant_value X (λ i. p (suc i)))))

-- the facts from which a locator is found: the lost points z, the N moments q, and the recurrence s
pub record AreSought (m t n c N : ℕ) (x v z : ℕ → ℕ) (lost : List ℕ) (syndromes moments : ℕ → ℕ) : Type 0 where
  pub two : 2 ≤ m
  pub few : t ≤ n
  pub places : AreLost (n - t) n lost
  pub count : c ≡ length lost
  pub rest : N ≡ t - length lost
  pub fit : HaveUnitDifferences m n x
  pub units : (i : ℕ) → i < n → HasInverse m (v i)
  pub there : (l : ℕ) → l < length lost → z l ≡ x (slice_index lost l)
  pub sums : (w : ℕ → ℕ) → ArePowerSums m t n x w syndromes
      → ArePowerSums m N n x (λ i. w i * product_of_differences m c z (x i)) moments

module _ {m t n c N : ℕ} {x v z : ℕ → ℕ} {lost : List ℕ} {s q : ℕ → ℕ} (sought : AreSought m t n c N x v z lost s q)
  where
    -- the weights of the moments: 0 where a listed error is, or the symbol is lost ..
    module _ (d : ℕ → ℕ) where
      abbrev weight : ℕ → ℕ
      weight i = v i * d i * product_of_differences m c z (x i)

      weight_none : (i : ℕ) → i < n → Congruent m (without lost d i) 0 → Congruent m (weight i) 0
      weight_none i b none = elim (lost_or_listed lost i) [
        | inl is ↦
            let l = lost_at lost i is in
            let factor = product-none c l.0 (λ l. residue m (pos (x i) -ℤ pos (z l))) (omega (arith, l.1, sought.count))
            (rw (sought.there l.0 l.1, l.2) (no_difference m (x i))) in
            mod_of_eq (omega (arith, ap (λ a. v i * d i * a) factor))
        | inr listed ↦ mod_of_combination (mod_times (v i * product_of_differences m c z (x i))
            (subst (λ a. Congruent m a 0) (without_listed lost d i listed) none)) (omega arith)
      ]

      -- .. and back
      error_none : (i : ℕ) → i < n → is_lost lost i ≡ false → Congruent m (weight i) 0 → Congruent m (d i) 0
      error_none i b listed none =
          let factor = has_product m c (λ l. residue m (pos (x i) -ℤ pos (z l))) (omega (arith, sought.two)) (λ l d.
          let e : l < length lost = omega (arith, d, sought.count) in
          rw (sought.there l e) (sought.fit.unit i (slice_index lost l) b (sought.places.places.within l e)
          (λ same. false≢true (sym listed ∙ ap (is_lost lost) same ∙ is_lost_at lost l e)))) in
          factor_none m (d i) (v i) (sought.units i b) (mod_of_combination
          (factor_none m (v i * d i) (product_of_differences m c z (x i)) factor none) (omega arith))

      fewer_weights : hamming_weight m n weight ≤ listed_weight m n lost d
      fewer_weights = hamming_weight_monotone m n (without lost d) weight weight_none

    pub none_near_by : NeedManyWeights m N q → (d : ℕ → ℕ) → IsNearPattern m t n x v lost s d → ⊥
    none_near_by many d near =
        let far = many.each n x _ (sought.sums (λ i. v i * d i) near.sums) in
        absurd (omega (arith, far, fewer_weights d, near.few, sought.rest))

    -- a locator, and its values: f before those at lost places are cleared, g afterwards
    module _ {L a : ℕ} {p f g : ℕ → ℕ} (locator : IsLocator m N L p q) (values : AreLocatorValues m L n x p f)
        (cleared : (i : ℕ) → g i ≡ without lost f i) (unit : HasInverse m a → HasInverse m (p L))
        (one : (u b : ℕ) → 2 ≤ N → IsGeometric m N u b q → IsLinear m u b L p) where
      cleared_zeros : zeros n f ≤ N → zeros n g ≤ t
      cleared_zeros few =
          let same = distance_alike n g (λ i. 0) (without lost f) (without lost (λ i. 0)) (λ i l. cleared i)
          (λ i l. grind (arith, lost_or_listed lost i, without_lost lost (λ i. 0) i, without_listed lost (λ i. 0) i)) in
          let here = zeros_others n g in let before = zeros_others n f in let hidden = few_hidden n lost f (λ i. 0) in
          omega (arith, same, here, before, hidden, sought.rest, sought.places.enough, sought.few)

      -- a value that isn't 0 isn't at a lost place, so it was there before
      kept_value : (i : ℕ) → g i ≢ 0 → (is_lost lost i ≡ false) × (g i ≡ f i)
      kept_value i other = elim (lost_or_listed lost i) [
        | inl is ↦ absurd (other (cleared i ∙ without_lost lost f i is))
        | inr listed ↦ (listed, cleared i ∙ without_listed lost f i listed)
      ]

      -- before the lost places are cleared, at most L values are 0 where the coefficient L has an inverse
      no_zeros : L ≡ 0 → zeros n f ≡ 0
      no_zeros is = sum_below-of_zeros n (λ i. cond (eqb (f i) 0) 1 0) (λ i l.
          chosen_nonzero (f i) 1 0 (λ e. absurd (omega (arith, values.none is i l, e, mod-eq_of_lt sought.two))))

      found_zeros : HasInverse m (p L) → zeros n f ≤ L
      found_zeros leading = elim (cases_lt 0 L) [
        | inl some ↦ elim (cases_lt L (zeros n f)) [
          | inl many ↦
              let at = near_words_agree_at_selection n (L + 1) f (λ i. 0) (omega (arith, many, zeros_others n f)) in
              let none = same_coefficients m (L + 1) p (λ i. 0) (λ i. x (at.place i))
              (rising_fit m n (L + 1) x at.place at.within at.rising sought.fit)
              (λ i l. mod_trans (none_of m _ (sym (values.some some (at.place i) (at.within i l)) ∙ at.same i l))
              (mod_of_eq (sym (no_value (L + 1) (x (at.place i)))))) L (omega arith) in
              absurd (unit_residue_is_nonzero m (p L) sought.two leading (residue_none m (p L) none))
          | inr few ↦ few
        ]
        | inr none ↦ omega (arith, no_zeros (omega arith))
      ]

      -- u·(x j - X) is 0 at x j alone
      linear_values : (u j : ℕ) → u % m ≢ 0 → j < n → IsLinear m u (x j) L p
          → (f j ≡ 0) × ((i : ℕ) → i < n → i ≢ j → f i ≢ 0)
      linear_values u j there l is =
          let value : (i : ℕ) → i < n → f i ≡ polynomial_at 2 p (x i) % m =
          λ i b. rw is.degree at (values.some (omega (arith, is.degree)) i b) in (
            value j l ∙ residue_none m _ (mod_of_combination (linear_value m L u (x j) (x j) p is) (omega arith)),
            λ i b other e.
                let r : ℕ = residue m (pos (x i) -ℤ pos (x j)) in
                let apart : Congruent m (r + x j) (x i) = mod_of_difference (x j) (omega (arith, sought.two)) refl in
                let none = none_of m (polynomial_at 2 p (x i)) (sym (value i b) ∙ e) in
                there (residue_none m u (factor_none m u r (sought.fit.unit i j b l other) (mod_of_combination
                (mod_add (mod_times u apart) (mod_add (linear_value m L u (x j) (x i) p is) (mod_sym none)))
                (omega arith)))),
          )

      module _ (d : ℕ → ℕ) (near : IsNearPattern m t n x v lost s d) where
        -- where all numbers met have inverses
        covers_units : HasInverse m (p L) → ((i : ℕ) → i < n → g i ≢ 0 → HasInverse m (g i)) → Covers m t n g d
        covers_units leading each =
            let w = weight d in let sums : ArePowerSums m N n x w q = sought.sums (λ i. v i * d i) near.sums in
            let vanish = weights_vanish (omega (arith, sought.two)) sums L p sought.fit locator.recurrence
            (omega (arith, locator.least.each n x w sums, fewer_weights d, near.few, sought.rest)) in
            record {
              few = cleared_zeros (omega (arith, found_zeros leading, locator.short));
              none = λ i l other.
                  let kept = kept_value i other in let value : HasInverse m (f i) = rw kept.1 at (each i l other) in
                  error_none d i l kept.0 (elim (cases_lt 0 L) [
                    | inl some ↦ factor_none m (w i) _ (has_of_residue m _ (f i) (values.some some i l) value)
                        (vanish i l)
                    | inr small ↦
                        let is : L ≡ 0 = omega arith in
                        factor_none m (w i) (p 0) (rw is at leading) (rw (is, constant_value (x i) p) at (vanish i l))
                  ]);
            }

        -- where no listed symbol is wrong
        covers_none : listed_weight m n lost d ≡ 0 → Covers m t n g d
        covers_none right =
            let least = locator.least.each n x (weight d) (sought.sums (λ i. v i * d i) near.sums) in
            record {
              few = cleared_zeros (omega (arith, no_zeros (omega (arith, least, fewer_weights d, right))));
              none = λ i l other. none_of m (d i) (listed_none m lost d i (kept_value i other).0
                  (same_at n i (λ i. without lost d i % m) (λ i. 0) (omega arith) l));
            }

        -- where one listed symbol is wrong
        covers_one : listed_weight m n lost d ≡ 1 → Covers m t n g d
        covers_one single =
            let w = weight d in let at = the_weight m n (without lost d) single in let j : ℕ = at.0 in
            let wrong : w j % m ≢ 0 =
            λ e. at.2 (value_without_lost_is_zero m lost d j
            (λ listed. residue_none m (d j) (error_none d j at.1 listed (none_of m (w j) e)))) in
            let is = one (w j) (x j) (omega (arith, near.few, sought.rest, single)) (record {
              nonzero = wrong;
              each = λ h b. mod_trans ((sought.sums (λ i. v i * d i) near.sums).sum h b)
                  (single_congruent m n j (λ i. w i * x i ^ h) at.1 (λ i k other.
                  mod_of_combination (mod_times (x i ^ h) (weight_none d i k (none_of m _ (at.3 i k other))))
                  (omega arith)));
            }) in
            let found = linear_values (w j) j wrong at.1 is in
            let few = sum_at_most_one_more n j (λ i. cond (eqb (f i) 0) 1 0) (λ i. 0)
            (λ i l other. omega (arith, chosen_nonzero (f i) 1 0 (found.1 i l other)))
            (omega (arith, chosen_zero (f j) 1 0 found.0)) in
            record {
              few = cleared_zeros
                  (omega (arith, few, sum_below-of_zeros n (λ i. 0) (λ i l. refl), near.few, sought.rest, single));
              none = λ i b other.
                  let kept = kept_value i other in
                  none_of m (d i) (listed_none m lost d i kept.0
                  (at.3 i b (λ same. other (kept.1 ∙ ap f same ∙ found.0))));
            }

      -- the locator's values cover the errors
      pub located_by : IsLocated m t n x v lost s g a
      located_by = record {
        units = λ has each d near. covers_units d near (unit has) each;
        single = λ d near few. elim (cases_eq (listed_weight m n lost d) 0) [
          | inl right ↦ covers_none d near right
          | inr some ↦ covers_one d near (omega arith)
        ];
      }
