use Rattle.std.proofs.Common.{◌≡◌, ℕ, ◌<◌, get_or}
use Rattle.long_product.proofs.two_parts.clear.Given as goal

-- the entries before i are 0
abbrev pub invariant-entries : goal.invariant-entries
invariant-entries l = (k : ℕ) → k < l.i → get_or l.entries k 0 ≡ 0
