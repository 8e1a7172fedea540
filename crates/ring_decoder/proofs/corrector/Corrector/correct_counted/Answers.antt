use Rattle.num_modular.specs.Callers.{◌≡◌, ◌-◌, ◌↔◌, ◌∙◌, refl, arith, length, entry, values_below}
use Rattle.ring_decoder.proofs.CorrectedWords.{modulus_is_not_one, codeword_by_zeros, fit_of_weights, right_already}
use Rattle.ring_decoder.proofs.CorrectedWords.{right_word}
use Rattle.ring_decoder.proofs.CorrectedWords.{fault_of_word}
use Rattle.ring_decoder.proofs.DualCode.{each_weight_has_inverse}
use Rattle.ring_decoder.proofs.LostPlaces.{not_lost}
use Rattle.ring_codes.specs.Erasure.{IsErasureCodeword}
use Rattle.ring_decoder.specs.Corrector.{AreLost}
use Rattle.ring_decoder.specs.Syndromes.{AreSyndromes}
use Rattle.ring_decoder.proofs.corrector.Corrector.correct_counted.Goals as goal
use Rattle.ring_decoder.proofs.corrector.Corrector.correct_counted.Goals.{After-count_zeros}

-- the word's syndromes
written_syndromes_of_word : (g : _) (c : After-count_zeros g)
    → let entries = entry g.T.RingWord.number g.R.Reducer.value (g.R.Reducer.modulus c.args.self.now.ring.now) in
    let s = c.write_syndromes-products.new.syndromes in
    AreSyndromes (g.R.Reducer.modulus c.args.self.now.ring.now) c.args.self.now.k (length c.args.self.now.points.now)
    (length s) (entries c.args.self.now.points.now) (entries c.args.self.now.weights.now) (entries c.args.word.now)
    (entries s)
written_syndromes_of_word g c =
    let self = c.args.self.now in let ring = g.R.Reducer in let m = ring.modulus self.ring.now in
    let number = g.T.RingWord.number in let room = c.requires.room in let wrote = c.write_syndromes-products in
    record {
      positive = (g.met.R.Reducer.canonical self.ring.now).positive;
      few = self.few;
      count = wrote.auto.syndromes ∙ c.split_at_mut-syndromes.ensures.front_len;
      weights = self.inverses;
      below = λ i l. values_below number ring.form ring.value m c.args.word.now i c.requires.word
          (omega (arith, l, room));
      small = λ h l. values_below number ring.form ring.value m wrote.new.syndromes h wrote.ensures.checked l;
      sums = rw (← wrote.auto.syndromes) at wrote.ensures.sums;
    }

-- the word is of the code exactly where all its syndromes are 0
zeros_tell : (g : _) (c : After-count_zeros g)
    → let self = c.args.self.now in let m = g.R.Reducer.modulus self.ring.now in
    let entries = entry g.T.RingWord.number g.R.Reducer.value m in
    (c.count_zeros.result ≡ length c.write_syndromes-products.new.syndromes)
    ↔ IsErasureCodeword m self.k (length self.points.now) (entries self.points.now) (entries c.args.word.now)
zeros_tell g c = rw c.count_zeros.ensures (codeword_by_zeros (written_syndromes_of_word g c))

pub returns-then-count_zeros-syndromes-clause-corrected : goal.returns-then-count_zeros-syndromes-clause-corrected
returns-then-count_zeros-syndromes-clause-corrected g c =
    let at = (goal.at.returns-then-count_zeros-syndromes-clause-corrected g c).After-count_zeros in
    let self = c.args.self.now in let m = g.R.Reducer.modulus self.ring.now in
    let entries = entry g.T.RingWord.number g.R.Reducer.value m in
    right_already _ entries m self.k self.points.now c.args.lost.now c.args.word.now (entries self.weights.now)
    self.inverses
    (c.in-Ok.ensures 0 (λ i. 0)) c.requires.word ((zeros_tell g at).0 c.if-count_zeros-syndromes.true)

pub find_errors-requires-clause-fit : goal.find_errors-requires-clause-fit
find_errors-requires-clause-fit g c = fit_of_weights _ _ _ _ c.args.self.now.inverses

pub find_errors-requires-clause-units : goal.find_errors-requires-clause-units
find_errors-requires-clause-units g c i l = each_weight_has_inverse _ _ i _ _ c.args.self.now.inverses l

pub find_errors-requires-clause-places : goal.find_errors-requires-clause-places
find_errors-requires-clause-places g c =
    let facts = written_syndromes_of_word g (goal.at.find_errors-requires-clause-places g c).After-count_zeros in
    let self = c.args.self.now in
    let same : self.k ≡ length self.points.now - length c.write_syndromes-products.new.syndromes =
    omega (arith, facts.count, facts.few) in
    let places : AreLost self.k (length self.points.now) c.args.lost.now = c.in-Ok.ensures 0 (λ i. 0) in
    rw same at places

pub returns-in-Err-find_errors-clause-corrected : goal.returns-in-Err-find_errors-clause-corrected
returns-in-Err-find_errors-clause-corrected g c =
    let facts = written_syndromes_of_word g (goal.at.returns-in-Err-find_errors-clause-corrected g c).After-count_zeros
    in (
      refl,
      fault_of_word g.T.RingWord.number _ _ _ _ _ _ _ _ c.args.lost.now facts (c.in-Ok.ensures 0 (λ i. 0))
          c.in-Err-find_errors.error c.in-Err-find_errors.ensures.found,
    )

pub returns-in-Ok-find_errors-clause-corrected : goal.returns-in-Ok-find_errors-clause-corrected
returns-in-Ok-find_errors-clause-corrected g c =
    let facts = written_syndromes_of_word g (goal.at.returns-in-Ok-find_errors-clause-corrected g c).After-count_zeros
    in
    let self = c.args.self.now in let ring = g.R.Reducer in let m = ring.modulus self.ring.now in
    let number = g.T.RingWord.number in let entries = entry number ring.value m in let found = c.in-Ok-find_errors in
    let each : length c.find_errors.new.errors ≡ length self.points.now =
    c.find_errors.auto.errors ∙ c.split_at_mut-errors.ensures.front_len in
    right_word _ entries m self.k _ found.wrong self.points.now c.args.lost.now c.args.word.now c.subtract.new.word _ _
    (entries c.find_errors.new.errors) facts (c.in-Ok.ensures 0 (λ i. 0)) c.subtract.ensures.checked
    (λ i l. values_below number ring.form ring.value m c.subtract.new.word i c.subtract.ensures.checked
    (omega (arith, l, c.subtract.auto.word, c.requires.room)))
    found.ensures.found.1 (λ i l. c.subtract.ensures.difference i (omega (arith, l, each)))

pub find_errors-requires-clause-modulus : goal.find_errors-requires-clause-modulus
find_errors-requires-clause-modulus g c =
    let at = (goal.at.find_errors-requires-clause-modulus g c).After-count_zeros in
    modulus_is_not_one _ _ _ _ _ (written_syndromes_of_word g at).below (λ is. c.if-count_zeros-syndromes.false
    ((zeros_tell g at).1 is))

pub returns-in-Err-clause-least : goal.returns-in-Err-clause-least
returns-in-Err-clause-least g c places =
    absurd (not_lost 0 _ _ (λ i. 0) _ c.in-Err.error (c.in-Err.ensures 0 (λ i. 0)) places)

pub returns-then-count_zeros-syndromes-clause-least : goal.returns-then-count_zeros-syndromes-clause-least
returns-then-count_zeros-syndromes-clause-least g c places other =
    let at = (goal.at.returns-then-count_zeros-syndromes-clause-least g c).After-count_zeros in
    absurd (other ((zeros_tell g at).0 c.if-count_zeros-syndromes.true))

pub returns-in-Err-find_errors-clause-codeword : goal.returns-in-Err-find_errors-clause-codeword
returns-in-Err-find_errors-clause-codeword g c is =
    let at = (goal.at.returns-in-Err-find_errors-clause-codeword g c).After-count_zeros in
    absurd (c.if-count_zeros-syndromes.false ((zeros_tell g at).1 is))

pub returns-in-Ok-find_errors-clause-codeword : goal.returns-in-Ok-find_errors-clause-codeword
returns-in-Ok-find_errors-clause-codeword g c is =
    let at = (goal.at.returns-in-Ok-find_errors-clause-codeword g c).After-count_zeros in
    absurd (c.if-count_zeros-syndromes.false ((zeros_tell g at).1 is))
