use Rattle.std.proofs.Common.{◌+◌, ◌/◌, ◌%◌, [], ◌∷◌, arith, ap, sym, ◌∙◌, subst, take}
use Rattle.std.proofs.lemmas.List.{length-take-le}
use Rattle.check_digits.specs.Codes.{weighted_sum, code_of}
use Rattle.check_digits.specs.Ibans.{AreCheckDigits}
use Rattle.check_digits.proofs.IbanChecks.{check_digits_of, check_of}
use Rattle.check_digits.proofs.Ibans.{number_leaves}
use Rattle.check_digits.proofs.iban.iban_check_digits.Goals as goal

pub returns : goal.returns
returns c =
    let text = c.args.text.now in
    let n = c.iban_digits-count.result in
    let v = c.residue-residue.result in
    let digits = c.iban_digits-count.new.digits in
    let leaves = c.residue-residue.ensures ∙ c.check_sum.ensures.residue
    ∙ ap (λ m. weighted_sum c.iban_code.result.weights.now (take n digits) % m) c.iban_code.ensures.modulus
    ∙ number_leaves (code_of c.iban_code.result) text (take n digits) n c.iban_code.ensures.code
    c.iban_digits-count.ensures.digits (length-take-le n digits (omega arith)) in
    subst (λ k. AreCheckDigits text ((48 + check_of v k / 10) ∷ (48 + check_of v k % 10) ∷ []))
    (sym c.check_number.ensures)
    (check_digits_of text v (c.has_iban_form.ensures.0 c.if-not-has_iban_form.false) leaves)
