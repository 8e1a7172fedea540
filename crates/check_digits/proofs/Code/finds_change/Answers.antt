use Rattle.std.proofs.Common.{◌*◌, ◌%◌, get_or, ap, ◌∙◌}
use Rattle.num_modular.specs.NumberLaws.{difference_and}
use Rattle.check_digits.specs.Codes.{code_of}
use Rattle.check_digits.proofs.CheckSums.{unit_finds}
use Rattle.check_digits.proofs.Codewords.{change_told, test_detects_changed_word}
use Rattle.check_digits.proofs.Code.finds_change.Goals as goal

pub returns : goal.returns
returns c =
    let code = code_of c.args.self.now in
    let w = get_or c.args.self.now.weights.now c.args.place 0 in
    let both = test_detects_changed_word _ _ (c.mulm-product.ensures
    ∙ ap (λ d. (w * d) % code.modulus) c.subm-difference.ensures)
    c.is_found.ensures c.fits.ensures (change_told code c.args.word.now c.args.place c.args.symbol
    c.args.self.now.positive c.requires.accepted c.requires.within) in
    record {
      refused = both.0;
      product = both.1;
      unit = λ inverse apart. both.1.1
          (λ _. unit_finds _ _ _ _ _ inverse (difference_and code.modulus _ _ c.args.self.now.positive) apart);
    }
