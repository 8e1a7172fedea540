use Rattle.std.proofs.Common.{◌∙◌, sym}
use Rattle.std.proofs.lemmas.Bool.{false≢true}
use Rattle.check_digits.proofs.LuhnDigits.{luhn_completed}
use Rattle.check_digits.proofs.States.{all_front}
use Rattle.check_digits.proofs.luhn.luhn_check_digit.Goals as goal

pub returns-then-are_digits : goal.returns-then-are_digits
returns-then-are_digits c = luhn_completed _ _ (c.are_digits.ensures.0 c.if-are_digits.true) c.sum.ensures

pub returns-else-are_digits : goal.returns-else-are_digits
returns-else-are_digits c t below is =
    false≢true (sym c.if-are_digits.false ∙ c.are_digits.ensures.1 (all_front c.args.word.now t is.digits))
