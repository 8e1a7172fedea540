-- Laws of entries: of reads, of writes, and of lists that hold values. Callers cite them in their lemma files and
-- answers. The names are the library's own words.
use Rattle.std.proofs.Common.{◌≡◌, ◌≢◌, ℕ, ◌+◌, ◌<◌, ◌≤◌, List, [], ◌∷◌, length, map, get_or, All}
use Rattle.std.proofs.Common.{inl, inr, sym, ◌∙◌, ap, arith, subst, get_or-set_same, get_or-set_other}
use Rattle.std.proofs.Math.ListN.{set, length-set}
use Rattle.std.proofs.lemmas.Bool.{cases_eq}
use Rattle.std.proofs.lemmas.List.{get_or-map, get_or_past, length-map, map-set}
use Rattle.std.proofs.lemmas.List.Elements.{All-set}
use Rattle.modular_reduced.specs.Forms.{IsForm}
use Rattle.modular_reduced.specs.Values.{values_of}
use Rattle.modular_reduced.specs.Entries.{entry, IsCheckedFormOf, HoldBelow, DoneBelow, DoneFrom}

-- the value of the form at index i
pub entry_at : {T : Type 0} (number : T → ℕ) (value : ℕ → ℕ → ℕ) (m : ℕ) (forms : List T) (i : ℕ) (d : T)
    → i < length forms → value m (number (get_or forms i d)) ≡ entry number value m forms i
entry_at number value m forms i d below = sym (get_or-map (λ f. value m (number f)) forms i d 0 below)

-- the value of a form x that was read at index i
pub entry_read : {T : Type 0} (number : T → ℕ) (value : ℕ → ℕ → ℕ) (m : ℕ) (forms : List T) (i : ℕ) (x : T)
    → i < length forms → x ≡ get_or forms i x → value m (number x) ≡ entry number value m forms i
entry_read number value m forms i x below is =
    ap (λ f. value m (number f)) is ∙ sym (get_or-map (λ f. value m (number f)) forms i x 0 below)

-- a form that was read is checked where all are
pub form_read : {T : Type 0} (number : T → ℕ) (form value : ℕ → ℕ → ℕ) (m : ℕ) (forms : List T) (i : ℕ) (x : T)
    → All (λ f. IsForm form value m (number f)) forms → i < length forms → x ≡ get_or forms i x
    → IsForm form value m (number x)
form_read number form value m forms i x all below is =
    subst (λ f. IsForm form value m (number f)) (sym is) (all i x below)

-- after the last index the value is 0
pub entry_past : {T : Type 0} (number : T → ℕ) (value : ℕ → ℕ → ℕ) (m : ℕ) (forms : List T) (i : ℕ)
    → length forms ≤ i → entry number value m forms i ≡ 0
entry_past {T} number value m forms i past =
    let e = length-map forms (λ (f : T). value m (number f)) in
    get_or_past (values_of number value m forms) i 0 (omega (arith, e, past))

-- after the form x is written at index i: the entry at i
pub entry_written : {T : Type 0} (number : T → ℕ) (value : ℕ → ℕ → ℕ) (m : ℕ) (forms : List T) (i : ℕ) (x : T)
    → i < length forms → entry number value m (set forms i x) i ≡ value m (number x)
entry_written number value m forms i x below =
    let l : i < length (set forms i x) = subst (λ n. i < n) (sym (length-set forms i x)) below in
    sym (entry_at number value m (set forms i x) i x l)
    ∙ ap (λ f. value m (number f)) (get_or-set_same forms i x x below)

-- after the form x is written at index i: every other entry
pub entry_kept : {T : Type 0} (number : T → ℕ) (value : ℕ → ℕ → ℕ) (m : ℕ) (forms : List T) (i k : ℕ) (x : T)
    → k ≢ i → entry number value m (set forms i x) k ≡ entry number value m forms k
entry_kept number value m forms i k x other =
    ap (λ vs. get_or vs k 0) (map-set (λ f. value m (number f)) forms i x)
    ∙ get_or-set_other (map (λ f. value m (number f)) forms) i k (value m (number x)) 0 other

-- a list of checked forms with a checked form written in it
pub forms_written : {T : Type 0} (number : T → ℕ) (form value : ℕ → ℕ → ℕ) (m : ℕ) (forms : List T) (i : ℕ) (x : T)
    → IsForm form value m (number x) → All (λ f. IsForm form value m (number f)) forms
    → All (λ f. IsForm form value m (number f)) (set forms i x)
forms_written number form value m forms i x is all = All-set (λ f. IsForm form value m (number f)) forms i x is all

-- before the first entry is written
pub done_none : (P : ℕ → ℕ → Type 0) (old : ℕ → ℕ) → DoneBelow P 0 old old
done_none P old = record { done = λ k l. absurd (omega arith); kept = λ k l i. old k }

-- one more entry is written, from the first on
pub done_more : {T : Type 0} (number : T → ℕ) (value : ℕ → ℕ → ℕ) (m : ℕ) (forms : List T) (i : ℕ) (x : T)
    (P : ℕ → ℕ → Type 0) (old : ℕ → ℕ)
    → i < length forms → DoneBelow P i old (entry number value m forms) → P i (value m (number x))
    → DoneBelow P (i + 1) old (entry number value m (set forms i x))
done_more number value m forms i x P old within before here = record {
  done = λ k l. elim (cases_eq k i) [
    | inl e ↦
        let at_i = subst (P i) (sym (entry_written number value m forms i x within)) here in
        subst (λ j. P j (entry number value m (set forms i x) j)) (sym e) at_i
    | inr n ↦ subst (P k) (sym (entry_kept number value m forms i k x n)) (before.done k (omega arith))
  ];
  kept = λ k l. let n : k ≢ i = omega arith in entry_kept number value m forms i k x n ∙ before.kept k (omega arith);
}

-- one more entry is written, from the last on
pub done_before : {T : Type 0} (number : T → ℕ) (value : ℕ → ℕ → ℕ) (m : ℕ) (forms : List T) (i j n : ℕ) (x : T)
    (P : ℕ → ℕ → Type 0) (old : ℕ → ℕ)
    → i < length forms → j ≡ i + 1 → DoneFrom P j n old (entry number value m forms) → P i (value m (number x))
    → DoneFrom P i n old (entry number value m (set forms i x))
done_before number value m forms i j n x P old within next before here = record {
  done = λ k l b. elim (cases_eq k i) [
    | inl e ↦
        let at_i = subst (P i) (sym (entry_written number value m forms i x within)) here in
        subst (λ j. P j (entry number value m (set forms i x) j)) (sym e) at_i
    | inr other ↦ subst (P k) (sym (entry_kept number value m forms i k x other)) (before.done k (omega arith) b)
  ];
  kept = λ k l. let other : k ≢ i = omega arith in
      entry_kept number value m forms i k x other ∙ before.kept k (omega arith);
}

-- at one more index stands the form of its value
pub hold_more : {T : Type 0} (number : T → ℕ) (form value : ℕ → ℕ → ℕ) (m : ℕ)
    (forms : List T) (i : ℕ) (x : T) (v : ℕ → ℕ)
    → i < length forms → HoldBelow number form value m forms v i
    → IsForm form value m (number x) → value m (number x) ≡ v i
    → HoldBelow number form value m (set forms i x) v (i + 1)
hold_more number form value m forms i x v within before is same = record {
  each = λ k d l. elim (cases_eq k i) [
    | inl e ↦
        let f : get_or (set forms i x) k d ≡ x =
        ap (λ j. get_or (set forms i x) j d) e ∙ get_or-set_same forms i x d within in
        subst (λ y. IsCheckedFormOf form value m (number y) (v k)) (sym f)
        (record { checked = is; same = same ∙ ap v (sym e) })
    | inr n ↦ subst (λ y. IsCheckedFormOf form value m (number y) (v k)) (sym (get_or-set_other forms i k x d n))
        (before.each k d (omega arith))
  ];
}

-- what is read at an index that holds a value
pub held_read : {T : Type 0} (number : T → ℕ) (form value : ℕ → ℕ → ℕ) (m : ℕ)
    (forms : List T) (k i : ℕ) (x : T) (v : ℕ → ℕ)
    → HoldBelow number form value m forms v i → k < i → x ≡ get_or forms k x
    → IsCheckedFormOf form value m (number x) (v k)
held_read number form value m forms k i x v held l is =
    subst (λ f. IsCheckedFormOf form value m (number f) (v k)) (sym is) (held.each k x l)

-- where each index holds its value, all forms are checked, and the values are those
pub held_forms : {T : Type 0} (number : T → ℕ) (form value : ℕ → ℕ → ℕ) (m : ℕ) (forms : List T) (v : ℕ → ℕ) (n : ℕ)
    → HoldBelow number form value m forms v n → length forms ≤ n → All (λ f. IsForm form value m (number f)) forms
held_forms number form value m forms v n held all i d l = (held.each i d (omega (arith, l, all))).checked

-- where an index holds a value, the entry is that value
pub held_entry : {T : Type 0} (number : T → ℕ) (form value : ℕ → ℕ → ℕ) (m : ℕ) (forms : List T) (v : ℕ → ℕ) (n i : ℕ)
    → HoldBelow number form value m forms v n → i < n → i < length forms → entry number value m forms i ≡ v i
held_entry number form value m [] v n i held l within = absurd (omega arith)
held_entry number form value m (x ∷ xs) v n i held l within =
    sym (entry_at number value m (x ∷ xs) i x within) ∙ (held.each i x l).same
