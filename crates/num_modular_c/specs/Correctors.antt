-- Codes that are prepared to correct words, for C: their lists, which lengths the calls accept, and what they return. The names
-- are the library's own words.
use Rattle.std.specs.Prelude.{◌≡◌, ℕ, ◌+◌, ◌-◌, ◌*◌, ◌<◌, ◌≤◌, List, length, map, slice_index}
use Rattle.num_modular.specs.TwoParts.{two_part_form, two_part_value}
use Rattle.ring_codes.specs.declared.erasure.errors.CorrectError.{CorrectError}
use Rattle.ring_decoder.specs.Corrector.{AreCorrectorLists, IsCorrectedWord, IsCorrectorFault}
use Rattle.num_modular_c.specs.Commands.{residues_of}
use Rattle.num_modular_c.specs.Contexts.{value_of}
use Rattle.num_modular_c.specs.Erasure.{correct_code_of, number_after}
use Rattle.num_modular_c.specs.declared.correctors.NmCorrector.{NmCorrector}
use Rattle.num_modular_c.specs.declared.montgomery.NmMontgomery.{NmMontgomery}

-- lengths for n points and k symbols of a message: there are forms of the points and of their weights, no check or n - k for
-- each point, and room for n words
pub record FitsMake (n k forms checks room : ℕ) : Type 0 where
  pub few : k ≤ n
  pub twice : forms ≡ 2 * n
  pub table : 0 < checks → checks ≡ (n - k) * n
  pub scratch : n ≤ room

-- the same for a correction: the word has n symbols, and scratch room for it and for the steps
pub record FitsCorrector (n k places room : ℕ) : Type 0 where
  pub word : places ≡ n
  pub scratch : 3 * n + 7 * (n - k) + 3 ≤ room

-- the lists are those that `nm_corrector_make` fills
abbrev pub IsCorrector : NmCorrector → Type 0
IsCorrector code = AreCorrectorLists (λ f. f) (two_part_form 64) (two_part_value 64) code.context.modulus code.k
    code.points.now code.weights.now code.checks.now

-- the points are the values of their forms
abbrev pub points_of : NmCorrector → List ℕ
points_of code = map (value_of code.context.modulus) code.points.now

-- the corrector is of this context, k, points modulo m, and number of checks
pub record IsMadeCorrector (context : NmMontgomery) (k : ℕ) (points : List ℕ) (checks : ℕ) (code : NmCorrector) : Type 0 where
  pub same_context : code.context ≡ context
  pub same_k : code.k ≡ k
  pub same_points : points_of code ≡ residues_of context.modulus points
  pub count : length code.checks.now ≡ checks
  pub lists : IsCorrector code

-- the new word is corrected, its symbols and those of the old one being residues modulo m
abbrev pub IsCorrectedModulo : ℕ → ℕ → List ℕ → List ℕ → List ℕ → List ℕ → ℕ → Type 0
IsCorrectedModulo m k points lost old new errors =
    IsCorrectedWord (λ x. x < m) (λ xs. slice_index (residues_of m xs)) m k points lost old new errors

-- correcting failed, for this reason
pub record IsCorrectorFailure (m k : ℕ) (points lost word : List ℕ) (code before after : ℕ) : Type 0 where
  pub error : CorrectError ℕ
  pub code_is : code ≡ correct_code_of error
  pub reason : IsCorrectorFault (λ a. a) m k (length points) (slice_index (residues_of m points)) lost
      (slice_index (residues_of m word)) error
  pub number : after ≡ number_after error before
