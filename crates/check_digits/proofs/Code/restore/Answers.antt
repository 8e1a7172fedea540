use Rattle.std.proofs.Common.{sym, ◌∙◌, subst, length-set}
use Rattle.std.proofs.lemmas.Bool.{false≢true}
use Rattle.check_digits.specs.Codes.{code_of, Fits}
use Rattle.check_digits.proofs.Codewords.{set_fits, fits_there, fits_elsewhere}
use Rattle.check_digits.proofs.Code.restore.Goals as goal

pub returns-then-fits : goal.returns-then-fits
returns-then-fits c =
    let others = c.fits_but.ensures.0 c.if-not-fits_but.false in
    let count = c.if-word-self.false in
    record {
      below = c.solve-symbol.ensures.below;
      accepted = record {
        places = length-set c.args.word.now c.args.place c.solve-symbol.result ∙ count;
        symbols = set_fits (code_of c.args.self.now) c.args.word.now c.args.place c.solve-symbol.result
            (c.fits.ensures.0 c.if-fits.true) others;
        leaves = c.solve-symbol.ensures.leaves;
      };
      only = λ t below w. c.solve-symbol.ensures.only t below w.leaves;
    }

pub returns-else-fits : goal.returns-else-fits
returns-else-fits c t below w =
    false≢true (sym c.if-fits.false
    ∙ c.fits.ensures.1
    (subst (Fits (code_of c.args.self.now) c.args.place) (c.solve-symbol.ensures.only t below w.leaves)
    (fits_there (code_of c.args.self.now) c.args.word.now c.args.place t c.requires.within w)))

pub returns-then-not-fits_but : goal.returns-then-not-fits_but
returns-then-not-fits_but c t below w =
    false≢true (sym c.if-not-fits_but.true ∙ c.fits_but.ensures.1 (fits_elsewhere (code_of c.args.self.now) _ _ t w))

pub returns-then-word-self : goal.returns-then-word-self
returns-then-word-self c t below w = c.if-word-self.true (sym (length-set _ _ t) ∙ w.places)
