-- Symbols of words, as entries of lists of forms.
use Rattle.ring_codes.proofs.Names.{◌≡◌, ◌<◌, ◌≤◌, ◌∷◌, ◌∙◌, ◌-◌, ◌++◌, ◌↔◌, ◌≢◌, ◌+◌, ◌%◌, ℕ, List, [], length, take}
use Rattle.ring_codes.proofs.Names.{get_or, sym, ap, arith, drop, length-append, length-drop, Bool, true, false, not}
use Rattle.ring_codes.proofs.Names.{IsTrue, refl, Option, Some, None, is_some, MatchOption, slice_range, get_or-drop}
use Rattle.ring_codes.proofs.Names.{inl, inr, cases_lt, false≢true, get_or-take, length-take-le, IsForm, entry}
use Rattle.ring_codes.proofs.Names.{entry_at, entry_past, HaveUnitDifferences, ArePlaces, IsFault, All}
use Rattle.ring_codes.proofs.Names.{get_or-append_right, take-put_mid, take-put_mid_below, HoldBelow, polynomial_at}
use Rattle.ring_codes.proofs.Names.{IsEncoding}
use borrow.Rule.Slice.PartMut.{put_mid}
use Rattle.ring_codes.specs.declared.erasure.RestoreError.{RestoreError}
use Rattle.ring_codes.specs.declared.erasure.RestoreError.TheVariants.{TooFewSymbols, PlaceOutOfRange, PlaceTwice}
use Rattle.ring_codes.specs.declared.erasure.RestoreError.TheVariants.{PointsDontFit}

-- entries that were read at other places
pub entry_chosen : {T : Type 0} (number : T → ℕ) (value : ℕ → ℕ → ℕ) (m : ℕ) (forms chosen : List T) (i p : ℕ)
    → ((d : T) → get_or chosen i d ≡ get_or forms p d) → i < length chosen → p < length forms
    → entry number value m chosen i ≡ entry number value m forms p
entry_chosen number value m forms [] i p same l within = absurd (omega arith)
entry_chosen number value m forms (x ∷ xs) i p same l within =
    sym (entry_at number value m (x ∷ xs) i x l) ∙ ap (λ f. value m (number f)) (same x)
    ∙ entry_at number value m forms p x within

-- the first k entries
pub entry_front : {T : Type 0} (number : T → ℕ) (value : ℕ → ℕ → ℕ) (m : ℕ) (forms : List T) (k i : ℕ)
    → i < k → k ≤ length forms → entry number value m (take k forms) i ≡ entry number value m forms i
entry_front number value m forms k i l room =
    let count = length-take-le k forms room in
    entry_chosen number value m forms (take k forms) i i (λ d. get_or-take k forms i d l) (omega (arith, count, l))
    (omega (arith, l, room))

-- what the test of a loop bounds: places counted from the last of n, and the neighbours of a place
pub back_within : (n k m : ℕ) → k < n → n ≤ m → n - 1 - k < m
back_within n k m l w = omega arith

-- the length of a list whose first k elements were replaced
pub joined_length : {T : Type 0} (xs ys : List T) (k : ℕ) → length xs ≡ k → k ≤ length ys
    → length (xs ++ drop k ys) ≡ length ys
joined_length xs ys k same l = omega (arith, length-append xs (drop k ys), length-drop k ys, same, l)

-- equal values have equal forms
pub same_forms : (form value : ℕ → ℕ → ℕ) (m f g : ℕ) → IsForm form value m f → IsForm form value m g
    → value m f ≡ value m g → f ≡ g
same_forms form value m f g is_f is_g e = is_f.same ∙ ap (form m) e ∙ sym is_g.same

-- what `!=` returns
pub told_same : (b e : Bool) (P : Type 0) → b ≡ not e → b ≡ false → (IsTrue e ↔ P) → P
told_same b true P is f tells = tells.0 refl
told_same b false P is f tells = absurd (false≢true (sym f ∙ is))

pub told_other : (b e : Bool) (P : Type 0) → b ≡ not e → b ≡ true → (IsTrue e ↔ P) → P → ⊥
told_other b e P is t tells p = false≢true (sym (is ∙ ap not (tells.1 p)) ∙ t)

-- whether an index of a place was found
pub index_tells : (places : List ℕ) (count place : ℕ) (found : Option ℕ) (b : Bool)
    → MatchOption found ((j : ℕ) → j < count → get_or places j 0 ≢ place)
    (λ j. (j < count) × (get_or places j 0 ≡ place))
    → b ≡ is_some found → IsTrue b ↔ ((j : ℕ) × (j < count) × (get_or places j 0 ≡ place))
index_tells places count place None b h e =
    ((λ t. let wrong : false ≡ true = sym e ∙ t in cc), λ there. absurd (h there.0 there.1 there.2))
index_tells places count place (Some j) b h e = ((λ t. (j, h.0, h.1)), λ there. e)

-- points that are equal fit alike
pub fit_same : (m n : ℕ) (x y : ℕ → ℕ) → ((i : ℕ) → i < n → x i ≡ y i) → HaveUnitDifferences m n x
    → HaveUnitDifferences m n y
fit_same m n x y same fit = record {
  unit = λ i j l k other. rw (← same i l, ← same j k) (fit.unit i j l k other);
}

-- the points at the first k places, copied to a list: these places are right, and the points fit exactly where the
-- copies do
pub record AreChosen {T : Type 0} (entries : List T → ℕ → ℕ) (m k : ℕ) (points chosen : List T) (places : List ℕ) : Type
    0 where
  pub right : ArePlaces k (length points) places
  pub count : length chosen ≡ k
  pub same : (i : ℕ) → i < k → entries chosen i ≡ entries points (get_or places i 0)
  pub fit : HaveUnitDifferences m k (entries chosen) ↔ HaveUnitDifferences m k (λ i. entries points (get_or places i 0))

pub are_chosen : {T : Type 0} (number : T → ℕ) (value : ℕ → ℕ → ℕ) (m j k : ℕ) (points chosen : List T)
    (places : List ℕ)
    → length chosen ≡ j → j ≡ k → ArePlaces j (length points) places
    → ((i : ℕ) (d : T) → i < j → get_or chosen i d ≡ get_or points (get_or places i 0) d)
    → AreChosen (entry number value m) m k points chosen places
are_chosen number value m j k points chosen places count is right read = grind (arith, entry_chosen, fit_same)

-- where the places and their points are right, no error comes
pub no_fault : (m k n : ℕ) (x : ℕ → ℕ) (places : List ℕ) (e : RestoreError) → ArePlaces k n places
    → HaveUnitDifferences m k (λ i. x (get_or places i 0)) → IsFault m k n x places e → ⊥
no_fault m k n x places TooFewSymbols right fit h = let l = right.enough in omega (arith, l, h)
no_fault m k n x places PlaceOutOfRange right fit h = let l = right.within h.0 h.1 in let o = h.4 in omega (arith, l, o)
no_fault m k n x places PlaceTwice right fit h = right.distinct h.0 h.1 h.2 h.3 h.6
no_fault m k n x places PointsDontFit right fit h = h.1 fit

-- the entries after the first k
pub entry_back : {T : Type 0} (number : T → ℕ) (value : ℕ → ℕ → ℕ) (m : ℕ) (forms : List T) (k i : ℕ)
    → entry number value m (drop k forms) i ≡ entry number value m forms (k + i)
entry_back number value m forms k i =
    let left = length-drop k forms in
    elim (cases_lt (k + i) (length forms)) [
      | inl b ↦ entry_chosen number value m forms _ i (k + i) (λ d. get_or-drop k forms i d) (omega (arith, left, b)) b
      | inr past ↦ rw (entry_past number value m (drop k forms) i (omega (arith, left, past)))
          (sym (entry_past number value m forms (k + i) past))
    ]

-- the length and the entries of a slice
pub slice_length : {T : Type 0} (forms : List T) (from to : ℕ) → from ≤ to → to ≤ length forms
    → length (slice_range forms from to) ≡ to - from
slice_length forms from to ordered within =
    let left = length-drop from forms in
    length-take-le (to - from) (drop from forms) (omega (arith, left, ordered, within))

pub entry_slice : {T : Type 0} (number : T → ℕ) (value : ℕ → ℕ → ℕ) (m : ℕ) (forms : List T) (from to i : ℕ)
    → from ≤ to → to ≤ length forms → i < to - from
    → entry number value m (slice_range forms from to) i ≡ entry number value m forms (from + i)
entry_slice number value m forms from to i ordered within l = grind (arith, length-drop, entry_front, entry_back)

-- where the entries before a part hold their values, and the part now has the next ones, all up to its end hold them
part_holds : {T : Type 0} (number : T → ℕ) (form value : ℕ → ℕ → ℕ) (m : ℕ) (forms part : List T) (v : ℕ
    → ℕ) (from k : ℕ)
    → from ≤ length forms → HoldBelow number form value m forms v from → All (λ f. IsForm form value m (number f)) part
    → ((i : ℕ) → i < length part → entry number value m part i ≡ v (from + i))
    → HoldBelow number form value m (put_mid from k forms part) v (from + length part)
part_holds number form value m forms part v from k within held all same = record {
  each = λ i d l. elim (cases_lt i from) [
    | inl before ↦
        rw (
          ← get_or-take from (put_mid from k forms part) i d before,
          take-put_mid_below from k forms part from (omega arith) within,
          get_or-take from forms i d before,
        ) (held.each i d before)
    | inr past ↦
        let j : ℕ = i - from in let here : j < length part = omega arith in let at : from + j ≡ i = omega arith in
        rw (
          ← get_or-take (from + length part) (put_mid from k forms part) i d l,
          take-put_mid from k forms part (from + length part) refl within,
          get_or-append_right (take from forms) part from i d (length-take-le from forms within) past,
        ) (record {
          checked = all j d here;
          same = entry_at number value m part j d here ∙ same j here ∙ ap v at;
        })
  ];
}

-- .. and so with the symbols at points of which a part follows
pub part_encoded : {T : Type 0} (number : T → ℕ) (form value : ℕ → ℕ → ℕ) (m n : ℕ) (c : ℕ
    → ℕ) (points forms part : List T)
    (from to k : ℕ) → from ≤ to → to ≤ length points → length forms ≡ length points → length part ≡ to - from
    → HoldBelow number form value m forms (λ i. polynomial_at n c (entry number value m points i) % m) from
    → All (λ f. IsForm form value m (number f)) part
    → IsEncoding m n (length (slice_range points from to)) (entry number value m (slice_range points from to)) c
    (entry number value m part)
    → HoldBelow number form value m (put_mid from k forms part)
    (λ i. polynomial_at n c (entry number value m points i) % m) to
part_encoded number form value m n c points forms part from to k ordered within long count held all encoded =
    let v : ℕ → ℕ = λ i. polynomial_at n c (entry number value m points i) % m in
    let symbols = slice_length points from to ordered within in
    let end : to ≡ from + length part = omega (arith, count, ordered) in
    rw end (part_holds number form value m forms part v from k (omega (arith, ordered, within, long)) held all
    (λ i l. encoded.symbol i (omega (arith, symbols, count, l))
    ∙ ap (λ a. polynomial_at n c a % m) (entry_slice number value m points from to i ordered within
    (omega (arith, count, l)))))
