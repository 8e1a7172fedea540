-- A list of forms as the function from places to values: what is read and what is written.
use Rattle.std.proofs.Common.{◌≡◌, ℕ, ◌+◌, ◌*◌, ◌%◌, ◌<◌, List, [], ◌∷◌, length, get_or, All, pos}
use Rattle.std.proofs.Common.{◌-ℤ◌, sym, ◌∙◌, arith, subst}
use Rattle.std.proofs.Math.ListN.{set, length-set}
use Rattle.std.proofs.Math.Nat.{add-mod_right}
use Rattle.std.proofs.lemmas.Bool.{cases_lt}
use Rattle.std.proofs.lemmas.List.Elements.{All-set}
use Rattle.modular_word.specs.Congruence.{Congruent}
use Rattle.modular_word.specs.Residues.{residue}
use Rattle.modular_word.proofs.Congruence.{mod_of_eq, mod_refl, mod_trans, mod_add, mod_mul, residue_of}
use Rattle.modular_word.proofs.ResidueLemmas.{residue_sub, residue_sub_wrapped}
use Rattle.modular_reduced.specs.Entries.{entry}
use Rattle.modular_reduced.specs.EntryLaws.{entry_at, entry_read, entry_written, entry_kept}
use Rattle.modular_reduced.specs.Forms.{Represents, IsForm, IsCanonical}
use Rattle.modular_reduced.proofs.FormLemmas.{form_of_value}
use Rattle.modular_transform.specs.Stages.{IsPair, PairDone}

-- the value of a checked form is below m
pub values_below : {T : Type 0} (number : T → ℕ) (form value : ℕ → ℕ → ℕ) (m : ℕ) (forms : List T) (i : ℕ)
    → All (λ f. IsForm form value m (number f)) forms → i < length forms → entry number value m forms i < m
values_below number form value m [] i all l = absurd (omega arith)
values_below number form value m (x ∷ xs) i all l =
    subst (λ v. v < m) (entry_at number value m (x ∷ xs) i x l) (all i x l).below

-- a form is written
pub forms_written : {T : Type 0} (number : T → ℕ) (form value : ℕ → ℕ → ℕ) (width m : ℕ)
    (forms : List T) (i v : ℕ) (f : T)
    → IsCanonical form value width m → Represents form m (number f) v → All (λ f. IsForm form value m (number f)) forms
    → All (λ f. IsForm form value m (number f)) (set forms i f)
forms_written number form value width m forms i v f canonical is all =
    let P = λ (f : _). IsForm form value m (number f) in All-set P forms i f (form_of_value canonical is) all

-- a difference modulo m, and what was taken away
residue_restored : (m v w : ℕ) → v < m → w < m → Congruent m (residue m (pos v -ℤ pos w) + w) v
residue_restored m v w lv lw = grind (arith, (cases_lt v w), residue_sub_wrapped, add-mod_right v m, residue_sub)

-- the sum of two values, and their difference times a power
pub sum_and_difference_are_pair : {m : ℕ} (a b power sum difference : ℕ) → a < m → b < m → sum ≡ (a + b) % m
    → difference ≡ (residue m (pos a -ℤ pos b) * power) % m → IsPair m power a b sum difference
sum_and_difference_are_pair {m} a b power sum difference la lb is_sum is_difference =
    let d = residue m (pos a -ℤ pos b) in
    record {
      summed = mod_trans (mod_of_eq is_sum) (residue_of (a + b));
      subtracted =
          mod_trans (mod_add (mod_trans (mod_of_eq is_difference) (residue_of (d * power))) (mod_refl (b * power)))
          (mod_trans (mod_of_eq (omega arith)) (mod_mul (residue_restored m a b la lb) (mod_refl power)));
    }

-- what a pair writes
pub written_pair_is_done : {T : Type 0} (number : T → ℕ) (form value : ℕ → ℕ → ℕ) (width m : ℕ) (forms : List T)
    (low high : ℕ)
    (a b sum product : T) (power : ℕ)
    → IsCanonical form value width m → All (λ f. IsForm form value m (number f)) forms
    → low < high → high < length forms → a ≡ get_or forms low a → b ≡ get_or forms high b
    → Represents form m (number sum) ((value m (number a) + value m (number b)) % m)
    → Represents form m (number product)
    ((residue m (pos (value m (number a)) -ℤ pos (value m (number b))) * power) % m)
    → PairDone m power low high (entry number value m forms)
    (entry number value m (set (set forms high product) low sum))
written_pair_is_done number form value width m forms low high a b sum product power canonical all order within
    read_a read_b is_sum is_product =
    let x = entry number value m forms in
    let y = entry number value m (set (set forms high product) low sum) in
    let l : low < length forms = omega arith in
    let is_a : IsForm form value m (number a) =
    grind (arith, all low a l) in
    let is_b : IsForm form value m (number b) =
    grind (arith, all high b within) in
    let va : value m (number a) ≡ x low = entry_read number value m forms low a l read_a in
    let vb : value m (number b) ≡ x high = entry_read number value m forms high b within read_b in
    let at_low : y low ≡ value m (number sum) = entry_written number value m (set forms high product) low sum
    (subst (λ n. low < n) (sym (length-set forms high product)) l) in
    let at_high : y high ≡ value m (number product) = entry_kept number value m (set forms high product) low high sum
    (omega arith) ∙ entry_written number value m forms high product within in
    let done = sum_and_difference_are_pair (value m (number a)) (value m (number b)) power (y low) (y high) is_a.below
    is_b.below
    (at_low ∙ canonical.one_value _ _ is_sum) (at_high ∙ canonical.one_value _ _ is_product) in
    grind (arith, entry_kept)

-- a loop that writes entry after entry
pub written_entries_match_target : {T : Type 0} (number : T → ℕ) (value : ℕ → ℕ → ℕ) (m : ℕ) (forms : List T)
    (i : ℕ) (f : T) (target : ℕ → ℕ)
    → i < length forms → ((k : ℕ) → k < i → entry number value m forms k ≡ target k) → value m (number f) ≡ target i
    → (k : ℕ) → k < i + 1 → entry number value m (set forms i f) k ≡ target k
written_entries_match_target number value m forms i f target within before is k l =
    grind (arith, set, entry_written, entry_kept)
