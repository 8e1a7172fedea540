use Rattle.std.proofs.Common.{ℕ}
use Rattle.std.specs.Int.{IsGcd}
use Rattle.residue_numbers.proofs.combination.common_divisor.Given as goal

-- the greatest common divisor of the two numbers is that of those before
abbrev pub invariant-steps : goal.invariant-steps
invariant-steps l = (g : ℕ) → IsGcd l.divisor l.rest g → IsGcd l.fn.m l.fn.n g

abbrev pub decreases-steps : goal.decreases-steps
decreases-steps l = l.rest
