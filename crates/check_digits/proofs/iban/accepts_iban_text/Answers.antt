use Rattle.std.proofs.Common.{arith}
use Rattle.std.proofs.lemmas.Bool.{false≢true}
use Rattle.check_digits.proofs.TextSymbols.{ungrouped_length}
use Rattle.check_digits.proofs.iban.accepts_iban_text.Goals as goal

pub returns-then-text-gt42 : goal.returns-then-text-gt42
returns-then-text-gt42 c = grind (arith, false≢true, ungrouped_length)
