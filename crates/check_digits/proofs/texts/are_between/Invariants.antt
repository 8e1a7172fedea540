use Rattle.std.proofs.Common.{ℕ, suc, ◌<◌, get_or}
use Rattle.check_digits.specs.Texts.{IsSymbol, IsSeparator}
use Rattle.check_digits.proofs.texts.are_between.Given as goal

-- a symbol is behind each separator so far
abbrev pub invariant-places : goal.invariant-places
invariant-places l = (i : ℕ) → i < l.place → IsSeparator (get_or l.text i 0) → IsSymbol (get_or l.text (suc i) 0)
