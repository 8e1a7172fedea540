use Rattle.std.proofs.Common.{[]}
use Rattle.num_modular.specs.Callers.{◌≤◌, ◌%◌, ℕ, refl, arith}
use Rattle.num_modular.specs.Polynomials.{polynomial_at, HaveUnitDifferences}
use Rattle.std.proofs.lemmas.Bool.{false≢true}
use Rattle.ring_codes.proofs.Counts.{fit_front}
use Rattle.ring_codes.specs.Erasure.{IsErasureCodeword}
use Rattle.ring_decoder.proofs.LostPlaces.{not_lost}
use Rattle.ring_codes.specs.declared.erasure.errors.CorrectError.{CorrectError}
use Rattle.ring_codes.specs.declared.erasure.errors.CorrectError.TheVariants.{Restore, TooManyErrors, NoInverse}
use Rattle.ring_codes.proofs.Distances.{no_distance}
use Rattle.ring_correction.proofs.NearPairs.{congruent_message_encodes_word}
use Rattle.ring_correction.specs.Correction.{IsNearMessage, IsSearchFault}
use Rattle.ring_decoder.specs.Corrector.{IsNearWord, IsCorrectorFault}
use Rattle.ring_correction.proofs.search.find_by_syndromes.Goals as goal

-- the word of a message that is near, as a word of the code that is near where no symbol is lost
near_word : (m k s : ℕ) (x y sent : ℕ → ℕ) → IsNearMessage m k s x y sent
    → IsErasureCodeword m k s x (λ j. polynomial_at k sent (x j) % m)
    × IsNearWord k s [] y (λ j. polynomial_at k sent (x j) % m)
near_word m k s x y sent near = ((sent, record { symbol = λ i l. refl }), omega (arith, near))

-- the fault of the corrector, where no symbol is lost
fault_of_corrector : {T : Type 0} (number : T → ℕ) (m k s : ℕ) (x y : ℕ → ℕ) (e : CorrectError T)
    → HaveUnitDifferences m s x
    → k ≤ s → IsCorrectorFault number m k s x [] y e → IsSearchFault number m k s x y e
fault_of_corrector number m k s x y (Restore e) fit few fault = absurd (not_lost m k s x [] e fault (grind arith))
fault_of_corrector number m k s x y TooManyErrors fit few fault =
    (fit, λ sent near. let word = near_word m k s x y sent near in fault.1 _ word.0 word.1)
fault_of_corrector number m k s x y (NoInverse a) fit few fault = (
  fit,
  fault.1,
  λ codeword.
      let none = no_distance s y y (λ i l. refl) in
      let two = fault.2 y codeword (omega (arith, none)) in absurd (omega (arith, none, two)),
)

pub returns-in-Err : goal.returns-in-Err
returns-in-Err g c =
    let same = c.over-code.ensures in
    let fault = rw c.copy_from_slice.ensures.after at (rw same.2 at (rw same.1 at (rw same.0 at c.in-Err.ensures))) in
    fault_of_corrector _ _ _ _ _ _ c.in-Err.error (c.if-not-fill_lists.ensures.fit.0 refl) c.requires.few fault.1

pub returns-then-interpolate : goal.returns-then-interpolate
returns-then-interpolate g c =
    let same = c.over-code.ensures in let few = c.requires.few in
    let corrected = rw c.copy_from_slice.ensures.after at (rw same.2 at (rw same.1 at (rw same.0 at c.in-Ok.ensures)))
    in record {
      fit = c.if-not-fill_lists.ensures.fit.0 refl;
      checked = c.if-interpolate.ensures.checked refl;
      forms = corrected.checked;
      encoding = congruent_message_encodes_word corrected.codeword.1 (λ i l. c.if-interpolate.ensures.only refl
          corrected.codeword.0
          (record { symbol = λ i l. corrected.codeword.1.symbol i (omega (arith, l, few)) }) i l);
      only = λ sent near.
          let word = near_word _ _ _ _ _ sent near in
          c.if-interpolate.ensures.only refl sent
          (record { symbol = λ i l. corrected.only _ word.0 word.1 i (omega (arith, l, few)) });
    }

pub returns-else-interpolate : goal.returns-else-interpolate
returns-else-interpolate g c =
    absurd (false≢true (c.if-interpolate.ensures.fit.1
    (fit_front _ _ _ _ c.requires.few (c.if-not-fill_lists.ensures.fit.0 refl))))
