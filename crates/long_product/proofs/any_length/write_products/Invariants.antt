use Rattle.std.proofs.Common.{◌≡◌, ℕ, ◌*◌, ◌/◌, ◌%◌, ◌^◌, ◌<◌, get_or}
use Rattle.long_product.proofs.any_length.write_products.Given as goal

-- the products before i are written
abbrev pub invariant-entries : goal.invariant-entries
invariant-entries l =
    (k : ℕ) → k < l.i → get_or l.out k 0 ≡ (get_or l.xs k 0 * get_or l.ys k 0) % (l.by.divider.divisor / 2 ^ l.by.shift)
