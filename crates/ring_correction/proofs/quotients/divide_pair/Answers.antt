use Rattle.std.proofs.Common.{take, drop, length-drop, length-take-le}
use Rattle.num_modular.specs.Callers.{◌≡◌, ◌∙◌, sym, arith, length, entry_past, values_below}
use Rattle.std.proofs.lemmas.Bool.{false≢true}
use Rattle.ring_correction.proofs.KeyPairs.{rest_whole}
use Rattle.ring_correction.proofs.NearPairs.{enough_units, near_quotients}
use Rattle.ring_codes.proofs.Distances.{rising_fit}
use Rattle.ring_codes.proofs.Symbols.{fit_same}
use Rattle.ring_correction.proofs.quotients.divide_pair.Goals as goal

pub returns-in-Ok-true-clause-message : goal.returns-in-Ok-true-clause-message
returns-in-Ok-true-clause-message g c d u y sent whole some lengths few room pair near =
    let ring = g.R.Reducer in let m = ring.modulus c.args.r.now in let number = g.T.RingWord.number in
    let split = c.args.split in let list = c.args.pair.now in let left = length-drop split list in
    let is_c = length-take-le split list c.requires.split in
    let is_d : length (drop split list) ≡ d = omega (arith, left, whole) in
    let forms = c.in-Ok-true.ensures.checked_values c.in-Ok-true.field-0-test in
    let whole = c.divide.auto.values ∙ c.split_at_mut-values.ensures.front_len in
    let are = rw (rest_whole list split, is_c, is_d, c.split_at_mut-chosen.ensures.front_len)
    at (c.in-Ok-true.ensures.quotients c.in-Ok-true.field-0-test) in
    let fit = c.interpolate.ensures.fit.1 (fit_same _ _ _ _ (λ i l. sym (are.chosen_there i l))
    (rising_fit _ _ _ _ are.place are.within are.rising c.requires.fit)) in (
      fit,
      c.interpolate.ensures.only fit sent
          (near_quotients _ _ _ _ _ _ _ _ _ sent some lengths c.requires.fit
          (λ l b. entry_past number ring.value m (drop split list) l (omega (arith, b, is_d))) near u _ _ pair are
          (λ i l. values_below _ _ _ _ c.divide.new.values i forms (omega (arith, l, whole)))),
    )

pub returns-in-Ok-false-clause-message : goal.returns-in-Ok-false-clause-message
returns-in-Ok-false-clause-message g c d u y sent whole some lengths few room pair near =
    let ring = g.R.Reducer in let m = ring.modulus c.args.r.now in let number = g.T.RingWord.number in
    let split = c.args.split in let list = c.args.pair.now in let left = length-drop split list in
    let is_c : length (take split list) ≡ split = length-take-le split list c.requires.split in
    let is_d : length (drop split list) ≡ d = omega (arith, left, whole) in
    let zeros = c.in-Ok-false.ensures.zeros (λ t. false≢true (sym c.in-Ok-false.field-0-test ∙ t)) in
    let fewer = rw (rest_whole list split, is_d, c.split_at_mut-chosen.ensures.front_len) at zeros.1 in
    absurd (zeros.0 (enough_units _ _ _ _ _ _ _ _ _ sent some lengths c.requires.fit
    (λ l b. entry_past number ring.value m (drop split list) l (omega (arith, b, is_d))) near u room pair fewer))
