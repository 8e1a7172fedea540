-- Loops that replace each entry of a list by the form of a value.
use Rattle.std.proofs.Common.{◌≡◌, ℕ, ◌+◌, ◌<◌, ◌≤◌, List, [], ◌∷◌, length, map, slice_index, get_or, All}
use Rattle.std.proofs.Common.{◌∙◌, ap, arith, subst, sym}
use Rattle.std.proofs.Math.ListN.{set}
use Rattle.modular_reduced.specs.Forms.{IsForm, IsCanonical, Represents}
use Rattle.modular_reduced.specs.Values.{HoldValues}
use Rattle.modular_reduced.specs.Entries.{entry, DoneBelow}
use Rattle.modular_reduced.specs.EntryLaws.{entry_at, forms_written, done_more}
use Rattle.modular_reduced.proofs.FormLemmas.{form_of_value, form_as}

-- all forms are checked; those before i have the values v, and from i on no value is changed
pub record WrittenBelow {T : Type 0} (number : T → ℕ) (form value : ℕ → ℕ → ℕ) (m : ℕ)
    (v : ℕ → ℕ) (i : ℕ) (old : ℕ → ℕ) (forms : List T) : Type 0 where
  pub checked : All (λ f. IsForm form value m (number f)) forms
  pub done : DoneBelow (λ k n. n ≡ v k) i old (entry number value m forms)

-- one more entry is written
pub written_below_next_index : {T : Type 0} (number : T → ℕ) (form value : ℕ → ℕ → ℕ) (m : ℕ) (forms : List T) (i : ℕ)
    (x : T)
    (v old : ℕ → ℕ)
    → i < length forms → WrittenBelow number form value m v i old forms
    → IsForm form value m (number x) → value m (number x) ≡ v i
    → WrittenBelow number form value m v (i + 1) old (set forms i x)
written_below_next_index number form value m forms i x v old within before is here = record {
  checked = forms_written number form value m forms i x is before.checked;
  done = done_more number value m forms i x (λ k n. n ≡ v k) old within before.done here;
}

-- at the end each value stands
pub written_all : {T : Type 0} {number : T → ℕ} {form value : ℕ → ℕ → ℕ} {m i : ℕ} {v old : ℕ → ℕ} {forms : List T}
    → WrittenBelow number form value m v i old forms → length forms ≤ i → HoldValues number form m forms v
written_all {number = number} {value = value} {m = m} {forms = forms} is all = record {
  each = λ k d l. form_as (is.checked k d l) (entry_at number value m forms k d l
      ∙ is.done.done k (omega (arith, l, all)));
}

-- where g takes the form of each value v to the form of h v, and each word of a list of forms is replaced by g of it
pub each_taken : {T : Type 0} (number : T → ℕ) (form value : ℕ → ℕ → ℕ) (m : ℕ) (g h : ℕ → ℕ) (old new : List T)
    → ((f : ℕ) → IsForm form value m f → Represents form m (g f) (h (value m f)))
    → All (λ f. IsForm form value m (number f)) old → length new ≡ length old
    → ((i : ℕ) → i < length old → slice_index (map number new) i ≡ g (slice_index (map number old) i))
    → HoldValues number form m new (λ i. h (entry number value m old i))
each_taken number form value m g h old new taken checked same each = record {
  each = λ i d l.
      let within : i < length old = omega (arith, l, same) in
      let itself : ℕ → ℕ → ℕ = λ _ n. n in
      let is = taken (number (get_or old i d)) (checked i d within) in
      let e : number (get_or new i d) ≡ g (number (get_or old i d)) =
      entry_at number itself m new i d l ∙ each i within ∙ ap g (sym (entry_at number itself m old i d within)) in
      let v = ap h (entry_at number value m old i d within) in
      record { below = subst (λ n. n < m) v is.below; same = e ∙ is.same ∙ ap (form m) v };
}

-- a list that holds values is one of checked forms ..
pub held_checked : {T : Type 0} (number : T → ℕ) {form value : ℕ → ℕ → ℕ} {width m : ℕ} (forms : List T) (v : ℕ → ℕ)
    → IsCanonical form value width m → HoldValues number form m forms v → All (λ f. IsForm form value m (number f))
    forms
held_checked number forms v canonical held = λ i d l. form_of_value canonical (held.each i d l)

-- .. with those values
pub held_values : {T : Type 0} (number : T → ℕ) {form value : ℕ → ℕ → ℕ} {width m : ℕ} (forms : List T) (v : ℕ
    → ℕ) (i : ℕ)
    → IsCanonical form value width m → HoldValues number form m forms v → i < length forms
    → entry number value m forms i ≡ v i
held_values number [] v i canonical held l = absurd (omega arith)
held_values number {form} {value} {width} {m} (x ∷ xs) v i canonical held l =
    sym (entry_at number value m (x ∷ xs) i x l)
    ∙ canonical.one_value (number (get_or (x ∷ xs) i x)) (v i) (held.each i x l)

-- the clauses of a call that writes n forms of values: that they represent these, their values, and that they are
-- checked
abbrev pub ListAnswered : {T : Type 0} → (T → ℕ) → (ℕ → ℕ → ℕ) → (ℕ → ℕ → ℕ) → ℕ → ℕ → List T → (ℕ → ℕ) → Type 0
ListAnswered number form value m n forms v = record {
  entries : HoldValues number form m forms v;
  values : (i : ℕ) → i < n → entry number value m forms i ≡ v i;
  checked : All (λ f. IsForm form value m (number f)) forms;
}

-- the first is enough
pub list_answered : {T : Type 0} {number : T → ℕ} {form value : ℕ → ℕ → ℕ} {width m n : ℕ} (forms : List T) {v : ℕ → ℕ}
    → IsCanonical form value width m → HoldValues number form m forms v → length forms ≡ n
    → ListAnswered number form value m n forms v
list_answered {number = number} forms canonical held same = record {
  entries = held;
  values = λ i l. held_values number forms _ i canonical held (omega (arith, l, same));
  checked = held_checked number forms _ canonical held;
}
