use Rattle.ring_codes.proofs.Names.{◌≡◌, ◌%◌, ◌∙◌, below_more, mod-mod, false≢true, length, entry, entry_read}
use Rattle.ring_codes.proofs.Names.{form_read, ap, sym, refl, arith, mod_refl, polynomial_at, polynomial-congruent}
use Rattle.ring_codes.proofs.Symbols.{same_forms, told_same, told_other}
use Rattle.ring_codes.proofs.erasure.is_codeword.Goals as goal

pub returns-then-ne-clause-codeword : goal.returns-then-ne-clause-codeword
returns-then-ne-clause-codeword g c =
    let ring = g.R.Reducer in let m = ring.modulus c.args.r.now in let number = g.T.RingWord.number in
    let k = length c.args.message.now in let i = c.places.i in let points = c.args.points.now in
    let x = entry number ring.value m points in
    let mine = entry number ring.value m c.interpolate.new.coefficients in
    let count : length c.interpolate.new.coefficients ≡ k = omega arith in
    let point = entry_read number ring.value m points i _ (omega arith) c.index-points-i.is in
    let symbol = entry_read number ring.value m _ i _ (omega arith) c.index-word-i.is in
    let is = form_read number ring.form ring.value m _ i _ c.requires.word (omega arith) c.index-word-i.is in (
      λ t. absurd (false≢true t),
      λ (other, encoding).
          let only = c.if-not-interpolate.ensures.only refl other
          (record { symbol = λ i l. encoding.symbol i (omega (arith, l, c.requires.few)) }) in
          let same = polynomial-congruent k mine other (x i) (x i)
          (λ i l. record { same = ap (λ v. v % m) (only i l) ∙ mod-mod (other i) m }) (mod_refl (x i)) in
          absurd (told_other _ _ _ c.ne.ensures c.if-ne.true
          (g.met.T.RingWord.equal c.evaluate-symbol.result c.index-word-i.result)
          (same_forms ring.form ring.value m _ _ c.evaluate-symbol.ensures.checked is
          (c.evaluate-symbol.ensures.value ∙ ap (λ a. polynomial_at (length c.interpolate.new.coefficients) mine a % m)
          point
          ∙ ap (λ k. polynomial_at k mine (x i) % m) count ∙ same.same
          ∙ sym (encoding.symbol i (omega arith)) ∙ sym symbol))),
    )

pub places-preserved : goal.places-preserved
places-preserved g c =
    let ring = g.R.Reducer in let m = ring.modulus c.args.r.now in let number = g.T.RingWord.number in
    let i = c.places.i in let word = c.args.word.now in let points = c.args.points.now in
    let mine = entry number ring.value m c.interpolate.new.coefficients in
    let point = entry_read number ring.value m points i _ (omega arith) c.index-points-i.is in
    let symbol = entry_read number ring.value m word i _ (omega arith) c.index-word-i.is in
    let same = told_same _ _ _ c.ne.ensures c.if-ne.false
    (g.met.T.RingWord.equal c.evaluate-symbol.result c.index-word-i.result) in
    below_more _ _ c.places.invariant
    (sym symbol ∙ sym (ap (ring.value m) same) ∙ c.evaluate-symbol.ensures.value
    ∙ ap (λ a. polynomial_at (length c.interpolate.new.coefficients) mine a % m) point)

pub returns-clause-message : goal.returns-clause-message
returns-clause-message g c t = grind arith

pub returns-clause-codeword : goal.returns-clause-codeword
returns-clause-codeword g c = ((λ t. (_, returns-clause-message g c t)), λ h. refl)
