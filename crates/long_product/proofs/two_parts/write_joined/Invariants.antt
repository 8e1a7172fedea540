use Rattle.std.proofs.Common.{◌≡◌, ℕ, ◌+◌, ◌*◌, ◌%◌, ◌<◌, length, get_or}
use Rattle.long_product.proofs.two_parts.write_joined.Given as goal

-- the places before e are written
abbrev pub invariant-places : goal.invariant-places
invariant-places l =
    (i : ℕ) → i < l.e → get_or l.out i 0 ≡ (get_or l.lows i 0 + get_or l.highs i 0 * 32768
    + l.c * (get_or l.lows (i + length l.fn.out) 0 + get_or l.highs (i + length l.fn.out) 0 * 32768)) % l.m
