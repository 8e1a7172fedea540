use Rattle.ring_codes.proofs.Names.{◌≡◌, ◌∙◌, false≢true, ap, refl, arith, length, entry}
use Rattle.ring_codes.proofs.RootPowers.{length_has_inverse_modulo_odd, word_of_coefficients, coefficients_end}
use Rattle.ring_codes.proofs.erasure.powers.find_coefficients.Goals as goal

pub returns-then-not-intt-clause-codeword : goal.returns-then-not-intt-clause-codeword
returns-then-not-intt-clause-codeword g c points powers =
    let ring = g.R.Reducer in let m = ring.modulus c.args.r.now in let number = g.T.RingWord.number in
    let unit = length_has_inverse_modulo_odd m (ring.value m (number c.args.g.now)) (length c.args.word.now)
    c.requires.odd
    c.requires.suits in (
      λ t. absurd (false≢true t),
      λ codeword. c.if-not-intt.ensures.inverse.1 (rw c.copy_from_slice.ensures.after unit),
    )

pub returns-clause-message : goal.returns-clause-message
returns-clause-message g c t points powers =
    let ring = g.R.Reducer in let m = ring.modulus c.args.r.now in let number = g.T.RingWord.number in
    let word = c.args.word.now in let copied = c.copy_from_slice.ensures.after in
    let count : length c.intt.new.xs ≡ length word = c.intt.auto.xs ∙ ap length copied in
    word_of_coefficients m (ring.value m (number c.args.g.now)) c.args.k (length word) points _
    (entry number ring.value m word) c.requires.few powers (rw copied at (c.if-not-intt.ensures.values refl))
    (λ i b l. c.are_zeros.ensures.0 t i b (omega (arith, count, l)))

pub returns-clause-codeword : goal.returns-clause-codeword
returns-clause-codeword g c points powers =
    let ring = g.R.Reducer in let m = ring.modulus c.args.r.now in let number = g.T.RingWord.number in
    let word = c.args.word.now in let copied = c.copy_from_slice.ensures.after in
    let count : length c.intt.new.xs ≡ length word = c.intt.auto.xs ∙ ap length copied in (
      λ t. (_, returns-clause-message g c t points powers),
      λ codeword. c.are_zeros.ensures.1 (λ i b l. coefficients_end m (ring.value m (number c.args.g.now)) c.args.k
          (length word) points codeword.0 _ (entry number ring.value m word) c.requires.few powers codeword.1
          (rw copied at (c.if-not-intt.ensures.undone refl)) i b (omega (arith, count, l))),
    )
