use Rattle.std.proofs.Common.{◌∙◌, sym, subst}
use Rattle.std.proofs.lemmas.Bool.{false≢true}
use Rattle.check_digits.specs.Codes.{IsCheckSymbol}
use Rattle.check_digits.specs.Damm.{IsDamm}
use Rattle.check_digits.proofs.DammDigits.{damm_completed}
use Rattle.check_digits.proofs.States.{all_front}
use Rattle.check_digits.proofs.damm.damm_check_digit.Goals as goal

pub returns-then-are_digits : goal.returns-then-are_digits
returns-then-are_digits c =
    subst (IsCheckSymbol 10 IsDamm c.args.word.now) (sym c.check.ensures.value)
    (damm_completed c.args.word.now (c.are_digits.ensures.0 c.if-are_digits.true))

pub returns-else-are_digits : goal.returns-else-are_digits
returns-else-are_digits c t below is =
    false≢true (sym c.if-are_digits.false ∙ c.are_digits.ensures.1 (all_front c.args.word.now t is.digits))
