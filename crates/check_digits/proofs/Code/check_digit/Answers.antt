use Rattle.std.proofs.Common.{◌≢◌, length, length-append, sym, ◌∙◌, arith, subst, refl}
use Rattle.std.proofs.lemmas.Bool.{false≢true}
use Rattle.check_digits.specs.Codes.{code_of, Fits}
use Rattle.check_digits.proofs.Codewords.{appended_word}
use Rattle.check_digits.proofs.Code.check_digit.Goals as goal

pub returns-then-fits : goal.returns-then-fits
returns-then-fits c =
    let whole = c.if-place-weights.false in
    let front = c.fits_but.ensures.0 c.if-not-fits_but.false in
    record {
      below = c.complete-symbol.ensures.below;
      accepted = (appended_word _ _ _ _ whole c.sum.ensures).1 (
        λ i l. front i l (let ne : i ≢ length c.args.word.now = omega (arith, l) in ne),
        c.fits.ensures.0 c.if-fits.true,
        c.complete-symbol.ensures.leaves,
      );
      only = λ t below is.
          c.complete-symbol.ensures.only t below ((appended_word _ _ t _ whole c.sum.ensures).0 is).2;
    }

pub returns-else-fits : goal.returns-else-fits
returns-else-fits c t below is =
    let told = (appended_word (code_of c.args.self.now) _ t _ c.if-place-weights.false c.sum.ensures).0 is in
    false≢true (sym c.if-fits.false ∙ c.fits.ensures.1 (subst (Fits (code_of c.args.self.now) (length c.args.word.now))
    (c.complete-symbol.ensures.only t below told.2) told.1))

pub returns-then-not-fits_but : goal.returns-then-not-fits_but
returns-then-not-fits_but c t below is =
    let told = (appended_word (code_of c.args.self.now) c.args.word.now t _ c.if-place-weights.false refl).0 is in
    false≢true (sym c.if-not-fits_but.true ∙ c.fits_but.ensures.1 (λ i l _. told.0 i l))

pub returns-then-place-weights : goal.returns-then-place-weights
returns-then-place-weights c t below is = grind (arith, length-append)
