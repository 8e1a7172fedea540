-- The greatest common divisor among the numbers tried so far.
use Rattle.std.proofs.Common.{◌≡◌}
use Rattle.modular_word.specs.Divisors.{gcd_up_to}
use Rattle.modular_word.proofs.plain.greatest_common_divisor.Given as goal

abbrev pub invariant-divisors : goal.invariant-divisors
invariant-divisors l = l.greatest ≡ gcd_up_to l.a l.n l.below
