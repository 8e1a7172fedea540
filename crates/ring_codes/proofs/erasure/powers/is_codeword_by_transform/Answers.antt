use Rattle.ring_codes.proofs.Names.{◌≡◌, ◌∙◌, sym, refl, length, entry, arith}
use Rattle.ring_codes.proofs.RootPowers.{encoding_alike}
use Rattle.ring_codes.proofs.Symbols.{entry_front}
use Rattle.ring_codes.proofs.erasure.powers.is_codeword_by_transform.Goals as goal

pub returns-clause-message : goal.returns-clause-message
returns-clause-message g c t points powers =
    let ring = g.R.Reducer in let m = ring.modulus c.args.r.now in let number = g.T.RingWord.number in
    let k = length c.args.message.now in let found = c.find_coefficients.new.found in
    let count : length found ≡ length c.args.word.now = c.find_coefficients.auto.found ∙ c.requires.scratch in
    encoding_alike m k (length c.args.word.now) points (entry number ring.value m found) _ _
    (λ i l. rw c.copy_from_slice.ensures.after
    (sym (entry_front number ring.value m found k i l (omega (arith, count, c.requires.few)))))
    (c.if-not-find_coefficients.ensures.message refl points powers)
