use Rattle.std.proofs.Common.{◌≡◌, ℕ, ◌/◌, ◌%◌, ◌<◌, get_or}
use Rattle.long_product.proofs.two_parts.load_parts.Given as goal

-- the parts of the coefficients before i are stored
abbrev pub invariant-coefficients : goal.invariant-coefficients
invariant-coefficients l = record {
  low : (k : ℕ) → k < l.i → get_or l.low k 0 ≡ get_or l.xs k 0 % 32768;
  high : (k : ℕ) → k < l.i → get_or l.high k 0 ≡ get_or l.xs k 0 / 32768;
}
