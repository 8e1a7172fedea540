use Rattle.std.proofs.Common.{ℕ, ◌<◌, ◌≤◌, get_or}
use Rattle.long_product.proofs.polynomials.greatest.Given as goal

-- no coefficient before i is greater
abbrev pub invariant-coefficients : goal.invariant-coefficients
invariant-coefficients l = (k d : ℕ) → k < l.i → get_or l.xs k d ≤ l.most
