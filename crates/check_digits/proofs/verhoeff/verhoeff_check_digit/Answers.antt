use Rattle.std.proofs.Common.{refl, ◌∙◌, sym}
use Rattle.std.proofs.lemmas.Bool.{false≢true, lt-ltb, le-ltb}
use Rattle.check_digits.proofs.VerhoeffDigits.{verhoeff_completed}
use Rattle.check_digits.proofs.States.{all_front}
use Rattle.check_digits.proofs.verhoeff.verhoeff_check_digit.Goals as goal

pub returns-then-product-lt5 : goal.returns-then-product-lt5
returns-then-product-lt5 c =
    verhoeff_completed _ _ _ (c.are_digits.ensures.0 c.if-not-are_digits.false) c.product-product.ensures.value
    (rw (lt-ltb _ 5 c.if-product-lt5.true) refl)

pub returns-else-product-lt5 : goal.returns-else-product-lt5
returns-else-product-lt5 c =
    verhoeff_completed _ _ _ (c.are_digits.ensures.0 c.if-not-are_digits.false) c.product-product.ensures.value
    (rw (le-ltb _ 5 c.if-product-lt5.false) refl)

pub returns-then-not-are_digits : goal.returns-then-not-are_digits
returns-then-not-are_digits c t below is =
    false≢true (sym c.if-not-are_digits.true ∙ c.are_digits.ensures.1 (all_front c.args.word.now t is.digits))
