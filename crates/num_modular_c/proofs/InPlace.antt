-- Lists whose entries are written in place, one after the other.
use Rattle.std.proofs.Common.{◌≡◌, ◌≢◌, ℕ, ◌+◌, ◌%◌, ◌<◌, List, length, map, get_or, inl}
use Rattle.std.proofs.Common.{inr, sym, ◌∙◌, arith, get_or-set_same, get_or-set_other}
use Rattle.std.proofs.Math.ListN.{set}
use Rattle.std.proofs.lemmas.Bool.{cases_eq}
use Rattle.std.proofs.lemmas.Grind.{same_number_lists}
use Rattle.std.proofs.lemmas.List.{get_or-map, length-map}
use Rattle.num_modular.specs.Entries.{DoneBelow}
use Rattle.num_modular.specs.Values.{values_of}

-- one more entry is written
pub entry_done_more : (xs : List ℕ) (i x : ℕ) (P : ℕ → ℕ → Type 0) (old : ℕ → ℕ) → i < length xs
    → DoneBelow P i old (λ k. get_or xs k 0) → P i x → DoneBelow P (i + 1) old (λ k. get_or (set xs i x) k 0)
entry_done_more xs i x P old within before here = record {
  done = λ k l. elim (cases_eq k i) [
    | inl e ↦ rw (e, get_or-set_same xs i x 0 within) here
    | inr n ↦ rw (get_or-set_other xs i k x 0 n) (before.done k (omega arith))
  ];
  kept = λ k l. let n : k ≢ i = omega arith in get_or-set_other xs i k x 0 n ∙ before.kept k (omega arith);
}

-- forms that were loaded have the residues of the words as values
pub values_of_loaded : (m : ℕ) (value : ℕ → ℕ → ℕ) (words forms : List ℕ) → length forms ≡ length words
    → ((i : ℕ) → i < length words → get_or (values_of (λ f. f) value m forms) i 0 ≡ get_or words i 0 % m)
    → values_of (λ f. f) value m forms ≡ map (λ x. x % m) words
values_of_loaded m value words forms same each =
    let one = length-map forms (λ f. value m f) in
    let other = length-map words (λ x. x % m) in
    same_number_lists _ _ (omega (arith, one, other, same))
    (λ k l.
    each k (omega (arith, one, same, l)) ∙ sym (get_or-map (λ x. x % m) words k 0 0 (omega (arith, one, same, l))))

-- words that were unloaded are the values of the forms
pub words_of_unloaded : (m : ℕ) (value : ℕ → ℕ → ℕ) (forms words : List ℕ) → length words ≡ length forms
    → ((i : ℕ) → i < length words → get_or (map (λ x. x) words) i 0 ≡ get_or (values_of (λ f. f) value m forms) i 0)
    → words ≡ values_of (λ f. f) value m forms
words_of_unloaded m value forms words same each =
    same_number_lists _ _ (same ∙ sym (length-map forms (λ f. value m f)))
    (λ k l. sym (get_or-map (λ x. x) words k 0 0 l) ∙ each k l)
