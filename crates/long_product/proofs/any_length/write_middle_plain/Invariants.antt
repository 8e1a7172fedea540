use Rattle.std.proofs.Common.{◌≡◌, ℕ, ◌+◌, ◌-◌, ◌/◌, ◌^◌, ◌<◌, ◌≤◌, length, get_or}
use Rattle.long_product.specs.Polynomials.{product_entry}
use Rattle.long_product.proofs.any_length.write_middle_plain.Given as goal

-- the coefficients before e are written
abbrev pub invariant-coefficients : goal.invariant-coefficients
invariant-coefficients l =
    (i : ℕ) → length l.xs ≤ i + 1 → i < l.e
    → get_or l.out i 0 ≡ product_entry (l.by.divider.divisor / 2 ^ l.by.shift) l.xs l.ys i

-- the coefficients that are left
abbrev pub decreases-coefficients : goal.decreases-coefficients
decreases-coefficients l = length l.ys - l.e
