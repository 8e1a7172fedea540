use Rattle.std.proofs.Common.{◌≡◌, ℕ, ◌<◌, length, get_or}
use Rattle.long_product.specs.Polynomials.{folded_entry}
use Rattle.long_product.proofs.polynomials.fill_plain.Given as goal

-- the coefficients before e are written
abbrev pub invariant-entries : goal.invariant-entries
invariant-entries l = (i : ℕ) → i < l.e → get_or l.out i 0 ≡ folded_entry l.m l.c (length l.fn.out) l.xs l.ys i
