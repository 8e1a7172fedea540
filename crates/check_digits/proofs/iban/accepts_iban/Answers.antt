use Rattle.std.proofs.Common.{arith, take}
use Rattle.std.proofs.lemmas.List.{length-take-le}
use Rattle.check_digits.specs.Codes.{code_of}
use Rattle.check_digits.proofs.Ibans.{is_word}
use Rattle.std.proofs.Math.Nat.{le_trans, le_refl}
use Rattle.check_digits.proofs.iban.accepts_iban.Goals as goal

pub returns : goal.returns
returns c =
    let n = c.iban_digits-count.result in
    let digits = c.iban_digits-count.new.digits in
    let form = c.has_iban_form.ensures.0 c.if-not-has_iban_form.false in
    let is = is_word (code_of c.iban_code.result) c.args.text.now (take n digits) n c.iban_code.ensures.code
    c.iban_digits-count.ensures.digits (length-take-le n digits (omega arith)) form.characters in
    (λ t. grind arith, λ iban. c.accepts.ensures.1 (is.1 iban.leaves))

pub slice_bounds-digits-end : goal.slice_bounds-digits-end
slice_bounds-digits-end c = grind (arith, le_trans, le_refl)

pub slice_bounds-accepts-end : goal.slice_bounds-accepts-end
slice_bounds-accepts-end c = grind (arith, length-take-le, le_trans, le_refl)
