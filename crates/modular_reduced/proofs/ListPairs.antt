-- Loops that replace each entry of a list by something of it and of the entry of another list at the same index.
use Rattle.std.proofs.Common.{◌≡◌, ℕ, ◌+◌, ◌<◌, List, length, map, slice_index, get_or, All, ◌∙◌, ap, ap₂, arith, subst}
use Rattle.std.proofs.Common.{sym}
use Rattle.std.proofs.Math.ListN.{set}
use Rattle.modular_reduced.specs.Forms.{IsForm, Represents}
use Rattle.modular_reduced.specs.Values.{HoldValues}
use Rattle.modular_reduced.specs.Entries.{entry, DoneBelow}
use Rattle.modular_reduced.specs.EntryLaws.{entry_at, entry_read, done_more}
use Rattle.modular_reduced.proofs.ListSteps.{WrittenBelow, written_below_next_index}

-- one more form is written
pub operation_written_at_index : {T : Type 0} (number : T → ℕ) (form value : ℕ → ℕ → ℕ) (m : ℕ) (xs ys : List T) (i : ℕ)
    (d y z : T)
    (op : ℕ → ℕ → ℕ) (old : ℕ → ℕ)
    → i < length xs → i < length ys → y ≡ get_or ys i y
    → WrittenBelow number form value m (λ k. op (old k) (entry number value m ys k)) i old xs
    → IsForm form value m (number z)
    → value m (number z) ≡ op (value m (number (get_or xs i d))) (value m (number y))
    → WrittenBelow number form value m (λ k. op (old k) (entry number value m ys k)) (i + 1) old (set xs i z)
operation_written_at_index number form value m xs ys i d y z op old within within_ys read before is here =
    let x_is = entry_at number value m xs i d within ∙ before.done.kept i (omega arith) in
    let y_is = entry_read number value m ys i y within_ys read in
    written_below_next_index number form value m xs i z (λ k. op (old k) (entry number value m ys k)) old within before
    is
    (here ∙ ap (λ v. op v (value m (number y))) x_is ∙ ap (λ v. op (old i) v) y_is)

-- one more word is written
pub pair_done : {T : Type 0} (number : T → ℕ) (xs ys : List T) (i : ℕ) (x y z : T) (op : ℕ → ℕ → ℕ) (old : ℕ → ℕ)
    → let words : List T → ℕ → ℕ = λ ws. slice_index (map number ws) in
    i < length xs → i < length ys → x ≡ get_or xs i x → y ≡ get_or ys i y
    → DoneBelow (λ k n. n ≡ op (old k) (words ys k)) i old (words xs) → number z ≡ op (number x) (number y)
    → DoneBelow (λ k n. n ≡ op (old k) (words ys k)) (i + 1) old (words (set xs i z))
pair_done number xs ys i x y z op old within within_ys read read_ys before here =
    let itself : ℕ → ℕ → ℕ = λ _ n. n in
    done_more number itself 0 xs i z (λ k n. n ≡ op (old k) (slice_index (map number ys) k)) old within before
    (here ∙ ap₂ op (entry_read number itself 0 xs i x within read ∙ before.kept i (omega arith))
    (entry_read number itself 0 ys i y within_ys read_ys))

-- a word that isn't replaced yet is below the bound of all
pub kept_below : {T : Type 0} (number : T → ℕ) (m : ℕ) (P : ℕ → ℕ → Type 0) (old xs : List T) (i : ℕ) (x : T)
    → All (λ y. number y < m) old → length xs ≡ length old → i < length xs → x ≡ get_or xs i x
    → DoneBelow P i (slice_index (map number old)) (slice_index (map number xs)) → number x < m
kept_below number m P old xs i x below same within read before =
    let itself : ℕ → ℕ → ℕ = λ _ n. n in let within_old : i < length old = omega (arith, within, same) in
    let x_is = entry_read number itself 0 xs i x within read ∙ before.kept i (omega arith) in
    subst (λ n. n < m) (entry_at number itself 0 old i x within_old ∙ sym x_is) (below i x within_old)

-- where g takes forms to forms as op takes their values, and each word of a list of forms is replaced by g of it and of
-- the
-- form at its index in another list
pub pairs_taken : {T : Type 0} (number : T → ℕ) (form value : ℕ → ℕ → ℕ) (m : ℕ) (g op : ℕ → ℕ
    → ℕ) (old ys new : List T)
    → ((f h : ℕ) → IsForm form value m f → IsForm form value m h
    → Represents form m (g f h) (op (value m f) (value m h)))
    → All (λ f. IsForm form value m (number f)) old → All (λ f. IsForm form value m (number f)) ys
    → length ys ≡ length old → length new ≡ length old
    → ((i : ℕ) → i < length old → slice_index (map number new) i ≡ g (slice_index (map number old) i)
    (slice_index (map number ys) i))
    → HoldValues number form m new (λ i. op (entry number value m old i) (entry number value m ys i))
pairs_taken number form value m g op old ys new taken checked checked_ys equal same each = record {
  each = λ i d l.
      let within : i < length old = omega (arith, l, same) in let within_ys : i < length ys =
      omega (arith, within, equal) in
      let itself : ℕ → ℕ → ℕ = λ _ n. n in
      let is = taken _ _ (checked i d within) (checked_ys i d within_ys) in
      let e : number (get_or new i d) ≡ g (number (get_or old i d)) (number (get_or ys i d)) =
      entry_at number itself m new i d l ∙ each i within
      ∙ sym (ap₂ g (entry_at number itself m old i d within) (entry_at number itself m ys i d within_ys)) in
      let v = ap₂ op (entry_at number value m old i d within) (entry_at number value m ys i d within_ys) in
      record { below = subst (λ n. n < m) v is.below; same = e ∙ is.same ∙ ap (form m) v };
}
