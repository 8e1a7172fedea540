use Rattle.std.proofs.Common.{◌≢◌, ℕ, ◌<◌, get_or}
use Rattle.check_digits.specs.Codes.{code_of, Fits}
use Rattle.check_digits.proofs.Code.fits_but.Given as goal

-- the symbols so far fit
abbrev pub invariant-places : goal.invariant-places
invariant-places l = (i : ℕ) → i < l.place → i ≢ l.erased → Fits (code_of l.self) i (get_or l.word i 0)
