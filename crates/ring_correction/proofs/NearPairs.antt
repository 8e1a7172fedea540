-- What a pair that solves the key equation says of a message whose word is near: its numerator is the product of the
-- message and the locator.
use Rattle.std.proofs.Common.{◌≡◌, ℕ, zero, suc, ◌+◌, ◌-◌, ◌*◌, ◌/◌, ◌%◌, ◌<◌, ◌≤◌}
use Rattle.std.proofs.Common.{ap, sym, ◌∙◌, arith, inl, inr, refl, mod-eq_of_lt}
use Rattle.std.proofs.Math.Nat.{mod-mod, zero-mod}
use Rattle.std.proofs.lemmas.Bool.{cases_eq, cases_lt}
use Rattle.std.proofs.Common.{List, length, take, get_or, set, All, get_or-set_same, get_or-set_other, length-take-le}
use Rattle.num_modular.specs.Callers.{same_coefficients, entry, entry_at, entry_read, form_read, held_entry, hold_more}
use Rattle.num_modular.specs.Callers.{IsForm, HoldBelow}
use Rattle.num_modular.specs.Congruence.{Congruent}
use Rattle.num_modular.specs.Inverses.{IsInverse, HasInverse}
use Rattle.num_modular.specs.NumberLaws.{mod_of_eq, mod_refl, mod_sym, mod_trans, mod_add}
use Rattle.num_modular.specs.NumberLaws.{sum_below-same, sum_below-more, sum_below-joined}
use Rattle.num_modular.specs.Polynomials.{polynomial_at, HaveUnitDifferences}
use Rattle.num_modular.specs.PolynomialLaws.{polynomial-none, polynomial-first, polynomial-congruent}
use Rattle.ring_codes.proofs.Distances.{same_messages, near_words_agree_at_selection, counted, counted_same}
use Rattle.ring_codes.proofs.Distances.{counted_other, counted_most}
use Rattle.ring_codes.proofs.Distances.{extended_sequence, at_end, before_end, extended_each, extended_rising}
use Rattle.ring_codes.proofs.Distances.{rising_fit}
use Rattle.ring_codes.proofs.Shifts.{shifted-values}
use Rattle.ring_codes.proofs.NearestWords.{polynomial_value_is_linear, unit_alike, no_value}
use Rattle.ring_codes.proofs.NewtonForms.{has_of_residue}
use Rattle.ring_codes.proofs.Counts.{fit_front}
use Rattle.ring_codes.proofs.Symbols.{entry_front, fit_same, same_forms}
use Rattle.ring_codes.specs.Erasure.{IsEncoding, distance}
use Rattle.ring_decoder.proofs.LostPlaces.{distance_alike}
use Rattle.ring_codes.specs.Shifts.{shifted}
use Rattle.ring_correction.specs.KeyEquations.{Solves, IsKeyPair, IsQuotient, AreQuotients}
use Rattle.ring_codes.proofs.Congruences.{mod_of_combination, mod_times, mod_of_residue, mod_of_inverse}
use Rattle.ring_codes.proofs.Roots.{longer_value}

-- the product of two polynomials, the first with k coefficients
product_of : (k d n : ℕ) (f e : ℕ → ℕ) → 1 ≤ d → k + d ≤ n + 1 → ((l : ℕ) → d ≤ l → e l ≡ 0)
    → (g : ℕ → ℕ) × ((X : ℕ) → polynomial_at n g X ≡ polynomial_at k f X * polynomial_at d e X)
product_of zero d n f e some room past =
    ((λ i. 0), λ X. omega (arith, no_value n X, ap (λ v. v * polynomial_at d e X) (polynomial-none f X)))
product_of (suc k) d zero f e some room past = absurd (omega arith)
product_of (suc k) d (suc n) f e some room past =
    let (g, is) = product_of k d n (λ j. f (suc j)) e some (omega arith) past in (
      (λ i. shifted g i + f 0 * e i),
      λ X. omega (
        arith,
        polynomial_value_is_linear (suc n) (shifted g) e (f 0) X,
        shifted-values n X g,
        ap (λ v. X * v) (is X),
        ap (λ v. f 0 * v) (longer_value d (suc n) X e (omega arith) past),
        ap (λ v. v * polynomial_at d e X) (polynomial-first k f X),
      ),
    )

-- the quotient by a number with an inverse is the other factor
quotient_is_other_factor : (m n e q w : ℕ) → IsQuotient m n e q → Congruent m n (w * e) → Congruent m q w
quotient_is_other_factor m n e q w is product =
    let one = mod_of_inverse is.unit.1 in
    mod_of_combination (mod_add (mod_times q (mod_sym one))
    (mod_add (mod_times is.unit.0 (mod_trans is.product product))
    (mod_times w one))) (omega arith)

-- a pair, and a message whose word is near
module _ (m k c d n : ℕ) (x y p e sent : ℕ → ℕ) (some : 1 ≤ d) (lengths : d + k ≡ c + 1)
    (fit : HaveUnitDifferences m n x) (past : (l : ℕ) → d ≤ l → e l ≡ 0)
    (near : distance n y (λ j. polynomial_at k sent (x j) % m) + c ≤ n) where
  -- the numerator is the product_coefficients of the message and the locator
  near_value : Solves m c d n x y p e → (X : ℕ)
      → Congruent m (polynomial_at c p X) (polynomial_at k sent X * polynomial_at d e X)
  near_value solves X =
      let (g, is) = product_of k d c sent e some (omega arith) past in
      let s = near_words_agree_at_selection n c y (λ j. polynomial_at k sent (x j) % m) near in
      let same = same_coefficients m c p g (λ i. x (s.place i)) (rising_fit m n c x s.place s.within s.rising fit)
      (λ i l.
      mod_of_combination (mod_add (solves (s.place i) (s.within i l))
      (mod_times (polynomial_at d e (x (s.place i))) (mod_of_residue (s.same i l))))
      (omega (arith, is (x (s.place i))))) in
      mod_trans (polynomial-congruent c p g X X same (mod_refl X)) (mod_of_eq (is X))

  -- the locator isn't 0 at so many points
  pub enough_units : (u : ℕ) → u < 2 * c → IsKeyPair m k c d n u x y p e
      → distance n (λ j. polynomial_at d e (x j) % m) (λ j. 0) < k → HasInverse m 0
  enough_units u room pair zeros =
      let s = near_words_agree_at_selection n d (λ j. polynomial_at d e (x j) % m) (λ j. 0) (omega (arith, zeros, near))
      in
      let none = same_coefficients m d e (λ i. 0) (λ i. x (s.place i)) (rising_fit m n d x s.place s.within s.rising
      fit)
      (λ i l. record { same = s.same i l ∙ sym (ap (λ v. v % m) (no_value d (x (s.place i))) ∙ zero-mod m) }) in
      elim pair.leads.unit [
        | inl (l, at, unit) ↦
            let none_p = same_coefficients m c p (λ i. 0) x (fit_front m n c x (omega (arith, near)) fit) (λ j b.
            mod_of_combination (mod_add (pair.solves j (omega (arith, b, near)))
            (mod_times (y j) (polynomial-congruent d e (λ i. 0) (x j) (x j) none (mod_refl (x j)))))
            (omega (arith, no_value c (x j), ap (λ v. y j * v) (no_value d (x j))))) in
            unit_alike m (p l) 0 (none_p l (omega arith)) unit
        | inr (l, at, unit) ↦ unit_alike m (e l) 0 (none l (omega arith)) unit
      ]

  -- the quotients are the values of the message
  pub near_quotients : (u : ℕ) (chosen values : ℕ → ℕ) → IsKeyPair m k c d n u x y p e
      → AreQuotients m n k x (polynomial_at c p) (polynomial_at d e) chosen values
      → ((i : ℕ) → i < k → values i < m) → IsEncoding m k k chosen sent values
  near_quotients u chosen values pair are below = record {
    symbol = λ i l.
        let X : ℕ = x (are.place i) in
        sym (mod-eq_of_lt (below i l))
        ∙ (quotient_is_other_factor m _ _ (values i) (polynomial_at k sent X) (are.quotient i l)
        (near_value pair.solves X)).same
        ∙ ap (λ v. polynomial_at k sent v % m) (sym (are.chosen_there i l));
  }

-- the errors at the first points are those of the lists cut there
pub distance_taken : {T : Type 0} (number : T → ℕ) (value : ℕ → ℕ → ℕ) (m count k : ℕ) (X Y : List T) (sent : ℕ → ℕ)
    → count ≤ length X → length Y ≡ length X
    → distance (length (take count X)) (entry number value m (take count Y))
    (λ j. polynomial_at k sent (entry number value m (take count X) j) % m)
    ≤ distance (length X) (entry number value m Y) (λ j. polynomial_at k sent (entry number value m X j) % m)
distance_taken {T} number value m count k X Y sent within each =
    let y = entry number value m Y in let word : List T → ℕ → ℕ =
    λ x j. polynomial_at k sent (entry number value m x j) % m in
    let alike : distance count (entry number value m (take count Y)) (word (take count X)) ≡ distance count y (word X) =
    grind (arith, distance_alike, entry_front) in
    let whole : count + (length X - count) ≡ length X = omega arith in
    let parts = sum_below-joined count (length X - count) (λ i. counted (y i) (word X i)) in
    rw (length-take-le count X within) (omega (arith, alike, parts, ap (λ j. distance j y (word X)) whole))

-- .. and these points fit where all do
pub fit_taken : {T : Type 0} (number : T → ℕ) (value : ℕ → ℕ → ℕ) (m count : ℕ) (X : List T) → count ≤ length X
    → HaveUnitDifferences m (length X) (entry number value m X)
    → HaveUnitDifferences m (length (take count X)) (entry number value m (take count X))
fit_taken number value m count X within fit =
    rw (length-take-le count X within) (fit_same m count (entry number value m X) _ (λ i l.
    sym (entry_front number value m X count i l within)) (fit_front m (length X) count _ within fit))

module _ {T : Type 0} (number : T → ℕ) (form value : ℕ → ℕ → ℕ) (m : ℕ) where
  -- the chosen points and the quotients so far, as forms in two lists
  pub record Found (n k : ℕ) (x numerator locator : ℕ → ℕ) (chosen values : List T) : Type 0 where
    pub place : ℕ → ℕ
    pub within : (i : ℕ) → i < k → place i < n
    pub rising : (i j : ℕ) → i < j → j < k → place i < place j
    pub chosen_there : HoldBelow number form value m chosen (λ i. x (place i)) k
    pub quotient : (i : ℕ) (d : T) → i < k → IsForm form value m (number (get_or values i d))
        × IsQuotient m (numerator (x (place i))) (locator (x (place i))) (value m (number (get_or values i d)))

  pub found_none : (x p e : ℕ → ℕ) (chosen values : List T) → Found 0 0 x p e chosen values
  found_none x p e chosen values = record {
    place = λ i. i;
    within = λ i l. absurd (omega arith);
    rising = λ i j l b. absurd (omega arith);
    chosen_there = record { each = λ k d l. absurd (omega arith) };
    quotient = λ i d l. absurd (omega arith);
  }

  -- a point more without a quotient
  pub found_kept : {n k : ℕ} {x p e : ℕ → ℕ} {chosen values : List T} → Found n k x p e chosen values
      → Found (n + 1) k x p e chosen values
  found_kept found = grind arith

  -- a point more with a quotient
  pub found_more : {n k : ℕ} {p e : ℕ → ℕ} (points : List T) {chosen values : List T} {a f q : T} → k < length chosen
      → k < length values → Found n k (entry number value m points) p e chosen values
      → All (λ f. IsForm form value m (number f)) points → n < length points → a ≡ get_or points n a
      → f ≡ get_or points n f → IsForm form value m (number q)
      × IsQuotient m (p (value m (number a))) (e (value m (number a))) (value m (number q))
      → Found (n + 1) (k + 1) (entry number value m points) p e (set chosen k f) (set values k q)
  found_more {n} {k} {p} {e} points {chosen} {values} {a} {f} {q} room room_values found all within at_a at_f quotient =
      let x = entry number value m points in let at = entry_read number value m points n a within at_a in record {
        place = extended_sequence k n found.place;
        within = grind (arith, cases_eq, at_end, before_end);
        rising = extended_rising k n found.place found.within found.rising;
        chosen_there = hold_more number form value m chosen k f (λ i. x (extended_sequence k n found.place i)) room
            (record { each = λ i d l. rw (before_end k n found.place i (omega arith)) (found.chosen_there.each i d l) })
            (form_read number form value m points n f all within at_f)
            (entry_read number value m points n f within at_f ∙ ap x (sym (at_end k n found.place k refl)));
        quotient = λ i d l. extended_each k n found.place
            (λ i t. IsForm form value m (number (get_or (set values k q) i d))
            × IsQuotient m (p (x t)) (e (x t)) (value m (number (get_or (set values k q) i d))))
            (λ i l. rw (get_or-set_other values k i q d (omega arith)) (found.quotient i d l))
            (rw (get_or-set_same values k q d room_values, ← at) quotient) i l;
      }

  -- .. of all of them
  pub found_forms : {n k : ℕ} {x p e : ℕ → ℕ} {chosen values : List T} → length values ≤ k
      → Found n k x p e chosen values → All (λ f. IsForm form value m (number f)) values
  found_forms room found i d l = (found.quotient i d (omega (arith, l, room))).0

  pub found_all : (n k j s : ℕ) (x p e : ℕ → ℕ) (chosen values : List T) (a : T) → k ≡ j → k ≡ length chosen
      → k ≡ length values → n ≤ s → Found n k x p e chosen values
      → AreQuotients m s j x p e (entry number value m chosen) (entry number value m values)
  found_all n k j s x p e chosen values a is_j is_k same few found = record {
    place = found.place;
    within = λ i l. let w = found.within i (omega arith) in omega (arith, w);
    rising = λ i i' l b. found.rising i i' l (omega arith);
    chosen_there = λ i l. held_entry number form value m chosen (λ i. x (found.place i)) k i found.chosen_there
        (omega arith) (omega arith);
    quotient = λ i l. rw (← entry_at number value m values i a (omega arith)) (found.quotient i a (omega arith)).1;
  }

-- one point more where a value is 0, or isn't
pub distance_grows_at_most_one : {k : ℕ} (n : ℕ) (a b : ℕ → ℕ) → distance n a b ≤ k
    → (distance (n + 1) a b ≤ k + 1) × (a n ≡ b n → distance (n + 1) a b ≤ k)
distance_grows_at_most_one n a b few =
    let next = sum_below-more (λ i. counted (a i) (b i)) n in (
      omega (arith, few, next, counted_most (a n) (b n)),
      λ same. omega (
        arith,
        few,
        next,
        counted_same (a n) (b n)
            same,
      ),
    )

-- forms differ exactly where their values do
pub counted_forms : (form value : ℕ → ℕ → ℕ) (m f g v w : ℕ) → IsForm form value m f → IsForm form value m g
    → value m f ≡ v → value m g ≡ w → counted f g ≡ counted v w
counted_forms form value m f g v w is_f is_g at_f at_g =
    grind (arith, cases_eq, counted_same, counted_other, same_forms)

-- the quotient from an inverse
pub quotient_made : {m n e value x dividend q : ℕ} → value ≡ e % m → IsInverse m value x → dividend ≡ n % m
    → q ≡ (dividend * x) % m → IsQuotient m n e q
quotient_made {value} {dividend} {q} is_e inverse is_n is = record {
  unit = has_of_residue _ _ _ is_e (_, inverse);
  product = mod_of_combination (mod_add (mod_times q (mod_sym (mod_of_residue is_e)))
      (mod_add (mod_times value (mod_of_residue is))
      (mod_add (mod_times dividend (mod_of_inverse inverse)) (mod_of_residue is_n)))) (omega arith);
}

-- the half of a number, rounded down
pub twice_half_within_one : (a : ℕ) → (2 * (a / 2) ≤ a) × (a ≤ 2 * (a / 2) + 1)
twice_half_within_one a = (omega arith, omega arith)

-- messages that are congruent have one word
pub congruent_message_encodes_word : {m k n : ℕ} {X mine sent word : ℕ → ℕ} → IsEncoding m k n X sent word
    → ((i : ℕ) → i < k → mine i ≡ sent i % m) → IsEncoding m k n X mine word
congruent_message_encodes_word is same = grind (arith, polynomial-congruent, mod_refl, mod_of_residue)

pub same_word : {m k n : ℕ} {X mine sent word other : ℕ → ℕ} → IsEncoding m k n X mine word
    → IsEncoding m k n X sent other
    → ((i : ℕ) → i < k → mine i ≡ sent i % m) → (i : ℕ) → i < n → word i ≡ other i
same_word is_mine is_sent same i l = is_mine.symbol i l ∙ sym ((congruent_message_encodes_word is_sent same).symbol i l)
