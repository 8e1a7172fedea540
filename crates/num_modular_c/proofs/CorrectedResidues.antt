-- A word that was corrected as forms, over the residues that these represent.
use Rattle.std.proofs.Common.{◌≡◌, ℕ, ◌%◌, ◌<◌, List, All, length, map, slice_index}
use Rattle.std.proofs.Common.{◌∙◌, subst}
use Rattle.std.proofs.Math.Nat.{mod-eq_of_lt}
use Rattle.std.proofs.lemmas.Grind.{same_number_lists}
use Rattle.std.proofs.lemmas.List.{get_or-map, length-map}
use Rattle.std.proofs.lemmas.List.Elements.{All-map}
use Rattle.num_modular.specs.Forms.{IsForm}
use Rattle.ring_codes.specs.declared.erasure.errors.CorrectError.{CorrectError}
use Rattle.ring_decoder.specs.Corrector.{IsCorrectedWord, IsCorrectorFault}
use Rattle.num_modular_c.specs.Commands.{residues_of}
use Rattle.num_modular_c.specs.Correctors.{IsCorrectedModulo}

values_of_forms_below : (form value : ℕ → ℕ → ℕ) (m : ℕ) (forms : List ℕ) → All (λ f. IsForm form value m f) forms
    → All (λ x. x < m) (map (λ f. value m f) forms)
values_of_forms_below form value m forms all = All-map (λ x. x < m) (λ f. value m f) forms (λ i d l. (all i d l).below)

-- residues are their own residues
residues_of_residues : (m : ℕ) (xs : List ℕ) → All (λ x. x < m) xs → residues_of m xs ≡ xs
residues_of_residues m xs all =
    let long = length-map xs (λ x. x % m) in
    same_number_lists _ _ long
    (λ k l. let within = subst (λ n. k < n) long l in
    get_or-map (λ x. x % m) xs k 0 0 within ∙ mod-eq_of_lt (all k 0 within))

-- and so are the values of forms
pub same_values : (form value : ℕ → ℕ → ℕ) (m : ℕ) (forms : List ℕ) → All (λ f. IsForm form value m f) forms
    → residues_of m (map (λ f. value m f) forms) ≡ map (λ f. value m f) forms
same_values form value m forms all = residues_of_residues m _ (values_of_forms_below form value m forms all)

pub corrected_residues : (form value : ℕ → ℕ → ℕ) (m k e : ℕ) (points lost word old new after : List ℕ)
    → All (λ f. IsForm form value m f) points → map (λ f. value m f) old ≡ residues_of m word
    → after ≡ map (λ f. value m f) new
    → IsCorrectedWord (λ f. IsForm form value m f) (λ fs. slice_index (map (λ f. value m f) fs)) m k points lost old new
    e → IsCorrectedModulo m k (map (λ f. value m f) points) lost word after e
corrected_residues form value m k e points lost word old new after checked loaded unloaded is =
    let long = length-map points (λ f. value m f) in
    let below = values_of_forms_below form value m new is.checked in
    let same = same_values form value m points checked in
    let done : residues_of m after ≡ map (λ f. value m f) new = rw unloaded (residues_of_residues m _ below) in
    record {
      places = rw long is.places;
      checked = rw unloaded below;
      codeword = rw (long, same, done) is.codeword;
      count = rw (long, ← loaded, done) is.count;
      few = rw long is.few;
      only = rw (long, same, ← loaded, done) is.only;
    }

pub fault_of_residues : (form value : ℕ → ℕ → ℕ) (m k : ℕ) (points lost word old : List ℕ) (error : CorrectError ℕ)
    → All (λ f. IsForm form value m f) points → map (λ f. value m f) old ≡ residues_of m word
    → IsCorrectorFault (λ a. a) m k (length points) (slice_index (map (λ f. value m f) points)) lost
    (slice_index (map (λ f. value m f) old)) error
    → IsCorrectorFault (λ a. a) m k (length (map (λ f. value m f) points))
    (slice_index (residues_of m (map (λ f. value m f) points))) lost (slice_index (residues_of m word)) error
fault_of_residues form value m k points lost word old error checked loaded is =
    rw (length-map points (λ f. value m f), same_values form value m points checked, ← loaded) is
