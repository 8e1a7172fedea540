-- Words without their lost symbols, and counts of symbols that differ there.
use Rattle.std.proofs.Common.{◌≡◌, ◌≢◌, ℕ, zero, suc, ◌+◌, ◌%◌, ◌<◌, ◌≤◌, Bool, true, false, cond, eqb, ◌||◌, ◌⊎◌}
use Rattle.std.proofs.Common.{List, [], ◌∷◌, length, take, slice_index, ap, sym, ◌∙◌, arith, refl, inl, inr}
use Rattle.std.proofs.Common.{eq-eqb, mod-eq_of_lt}
use Rattle.std.proofs.Math.Nat.{zero-mod}
use Rattle.std.proofs.lemmas.Bool.{cases_eq, cases_Bool, false≢true, ne_eqb}
use Rattle.std.proofs.lemmas.Bool.Decides.{eqb_tells}
use Rattle.std.proofs.lemmas.List.Folds.{list_any_more, list_any_at}
use Rattle.std.specs.List.{list_any}
use Rattle.num_modular.specs.NumberLaws.{sum_below-zero, sum_below-suc, sum_below-same, sum_below-add}
use Rattle.num_modular.specs.Sums.{sum_below}
use Rattle.ring_codes.proofs.Distances.{counted, counted_same, counted_other, counted_most}
use Rattle.std.proofs.Math.Bool.{or-true, or-false}
use Rattle.ring_codes.specs.Erasure.{distance}
use Rattle.ring_codes.specs.declared.erasure.RestoreError.{RestoreError}
use Rattle.ring_codes.specs.declared.erasure.RestoreError.TheVariants.{TooFewSymbols, PlaceOutOfRange, PlaceTwice}
use Rattle.ring_codes.specs.declared.erasure.RestoreError.TheVariants.{PointsDontFit}
use Rattle.ring_decoder.specs.Corrector.{AreLost, AreLostAtFault, without, listed_distance}

-- a place is among the lost ones
abbrev pub is_lost : List ℕ → ℕ → Bool
is_lost lost i = list_any (λ p. eqb p i) lost

pub lost_or_listed : (lost : List ℕ) (i : ℕ) → (is_lost lost i ≡ true) ⊎ (is_lost lost i ≡ false)
lost_or_listed lost i = cases_Bool (is_lost lost i)

pub without_lost : (lost : List ℕ) (y : ℕ → ℕ) (i : ℕ) → is_lost lost i ≡ true → without lost y i ≡ 0
without_lost lost y i e = ap (λ b. cond b 0 (y i)) e

pub without_listed : (lost : List ℕ) (y : ℕ → ℕ) (i : ℕ) → is_lost lost i ≡ false → without lost y i ≡ y i
without_listed lost y i e = ap (λ b. cond b 0 (y i)) e

-- which lost place it is
pub lost_at : (lost : List ℕ) (i : ℕ) → is_lost lost i ≡ true → (l : ℕ) × (l < length lost) × (slice_index lost l ≡ i)
lost_at [] i e = absurd (false≢true e)
lost_at (p ∷ ps) i e = elim (eqb_tells p i) [
  | inl q ↦ (0, omega arith, q.1)
  | inr q ↦
      let r = lost_at ps i (sym (ap (λ b. b || list_any (λ r. eqb r i) ps) q.0) ∙ e) in
      (suc r.0, omega (arith, r.1), r.2)
]

pub is_lost_at : (lost : List ℕ) (l : ℕ) → l < length lost → is_lost lost (slice_index lost l) ≡ true
is_lost_at lost l below =
    list_any_at (λ p. eqb p (slice_index lost l)) lost l 0 below (eq-eqb (slice_index lost l) (slice_index lost l) refl)

-- one lost place more
without_other : (p i : ℕ) (ps : List ℕ) (y : ℕ → ℕ) → i ≢ p → without (p ∷ ps) y i ≡ without ps y i
without_other p i ps y other = ap (λ b. cond (b || is_lost ps i) 0 (y i)) (ne_eqb p i (λ e. other (sym e)))

pub without_more : (lost : List ℕ) (k i : ℕ) (y : ℕ → ℕ) → k < length lost → i ≡ slice_index lost k
    → without (take (k + 1) lost) y i ≡ 0
without_more lost k i y below e =
    without_lost (take (k + 1) lost) y i
    (rw (list_any_more (λ p. eqb p i) lost k 0 below, eq-eqb (slice_index lost k) i (sym e)) (or-true _))

pub without_kept : (lost : List ℕ) (k i : ℕ) (y : ℕ → ℕ) → k < length lost → i ≢ slice_index lost k
    → without (take (k + 1) lost) y i ≡ without (take k lost) y i
without_kept lost k i y below other =
    rw (list_any_more (λ p. eqb p i) lost k 0 below, ne_eqb (slice_index lost k) i (λ e. other (sym e)), or-false) refl

pub without_below : (m : ℕ) (lost : List ℕ) (y : ℕ → ℕ) (i : ℕ) → y i < m → without lost y i % m ≡ without lost y i
without_below m lost y i l =
    grind (arith, lost_or_listed lost i, without_lost lost y i, without_listed lost y i, zero-mod m, mod-eq_of_lt l)

-- words that are the same where no symbol is lost, and numbers that are 0 modulo m there
pub without_alike : (lost : List ℕ) (y z : ℕ → ℕ) (i : ℕ) → (is_lost lost i ≡ false → y i ≡ z i)
    → without lost y i ≡ without lost z i
without_alike lost y z i same = grind (arith, lost_or_listed lost i, without_lost lost, without_listed lost, same)

pub value_without_lost_is_zero : (m : ℕ) (lost : List ℕ) (d : ℕ → ℕ) (i : ℕ) → (is_lost lost i ≡ false → d i % m ≡ 0)
    → without lost d i % m ≡ 0
value_without_lost_is_zero m lost d i none =
    grind (arith, lost_or_listed lost i, without_lost lost d i, without_listed lost d i, zero-mod m, none)

pub listed_none : (m : ℕ) (lost : List ℕ) (d : ℕ → ℕ) (i : ℕ) → is_lost lost i ≡ false → without lost d i % m ≡ 0
    → d i % m ≡ 0
listed_none m lost d i listed none = ap (λ a. a % m) (sym (without_listed lost d i listed)) ∙ none

-- sums of terms that are greater nowhere, or at one place alone
sum_most : (n : ℕ) (f g : ℕ → ℕ) → ((i : ℕ) → i < n → f i ≤ g i) → sum_below n f ≤ sum_below n g
sum_most zero f g less = omega (arith, sum_below-zero f)
sum_most (suc n) f g less =
    let i = sum_most n f g (λ i l. less i (omega arith)) in
    omega (arith, sum_below-suc n f, sum_below-suc n g, i, less n (omega arith))

pub sum_at_most_one_more : (n p : ℕ) (f g : ℕ → ℕ) → ((i : ℕ) → i < n → i ≢ p → f i ≤ g i) → f p ≤ 1
    → sum_below n f ≤ sum_below n g + 1
sum_at_most_one_more zero p f g less one = omega (arith, sum_below-zero f)
sum_at_most_one_more (suc n) p f g less one =
    let s = sum_below-suc n f in let t = sum_below-suc n g in
    elim (cases_eq n p) [
      | inl e ↦
          let o : f n ≤ 1 = rw e one in
          omega (arith, s, t, sum_most n f g (λ i l. less i (omega arith) (omega arith)), o)
      | inr other ↦
          omega (
            arith,
            s,
            t,
            sum_at_most_one_more n p f g (λ i b. less i (omega arith)) one,
            less n (omega arith)
                other,
          )
    ]

-- lost symbols hide as many differences at most
pub few_hidden : (n : ℕ) (lost : List ℕ) (a b : ℕ → ℕ) → distance n a b ≤ listed_distance n lost a b + length lost
few_hidden n [] a b = let e : listed_distance n [] a b ≡ distance n a b = refl in omega (arith, e)
few_hidden n (p ∷ ps) a b =
    let i = few_hidden n ps a b in
    let o = sum_at_most_one_more n p (λ i. counted (without ps a i) (without ps b i))
    (λ i. counted (without (p ∷ ps) a i) (without (p ∷ ps) b i))
    (λ i _ other. rw (without_other p i ps a other, without_other p i ps b other) (omega arith))
    (counted_most (without ps a p) (without ps b p)) in
    let more : length (p ∷ ps) ≡ suc (length ps) = refl in
    omega (arith, i, o, more)

-- words that are the same
pub distance_alike : (n : ℕ) (a b c d : ℕ → ℕ) → ((i : ℕ) → i < n → a i ≡ c i) → ((i : ℕ) → i < n → b i ≡ d i)
    → distance n a b ≡ distance n c d
distance_alike n a b c d first second = sum_below-same n _ _ (λ i l. rw (first i l, second i l) refl)

-- words that differ at fewer places
pub fewer_differences : (n : ℕ) (a b c d : ℕ → ℕ) → ((i : ℕ) → i < n → c i ≡ d i → a i ≡ b i)
    → distance n a b ≤ distance n c d
fewer_differences n a b c d less =
    sum_most n _ _ (λ i l. grind (arith, cases_eq (c i) (d i), counted_same, counted_other, counted_most, less i l))

-- words that differ at no place
pub same_at : (n i : ℕ) (a b : ℕ → ℕ) → distance n a b ≤ 0 → i < n → a i ≡ b i
same_at zero i a b none l = absurd (omega arith)
same_at (suc n) i a b none l =
    let more = sum_below-suc n (λ i. counted (a i) (b i)) in
    grind (arith, cases_eq (a n) (b n), cases_eq i n, more, counted_other, same_at n i a b)

-- a sum of two distances
counted_sum : (x y z : ℕ) → counted y z ≤ counted x y + counted x z
counted_sum x y z = grind (arith, cases_eq x y, cases_eq x z, counted_same, counted_other, counted_most y z)

pub distance_sum : (n : ℕ) (a b c : ℕ → ℕ) → distance n b c ≤ distance n a b + distance n a c
distance_sum n a b c =
    let most = sum_most n (λ i. counted (b i) (c i)) (λ i. counted (a i) (b i) + counted (a i) (c i))
    (λ i l. counted_sum (a i) (b i) (c i)) in
    omega (arith, most, sum_below-add n (λ i. counted (a i) (b i)) (λ i. counted (a i) (c i)))

-- places at fault aren't right
pub not_lost : (m k n : ℕ) (x : ℕ → ℕ) (lost : List ℕ) (e : RestoreError) → AreLostAtFault m k n x lost e
    → AreLost k n lost
    → ⊥
not_lost m k n x lost TooFewSymbols fault is = omega (arith, fault, is.enough)
not_lost m k n x lost PlaceOutOfRange fault is = omega (arith, is.places.within fault.1.0 fault.1.1, fault.1.4)
not_lost m k n x lost PlaceTwice fault is = is.places.distinct fault.1.0 fault.1.1 fault.1.2 fault.1.3 fault.1.6
not_lost m k n x lost PointsDontFit fault is = fault
