use Rattle.std.proofs.Common.{◌≡◌, ◌+◌, ◌*◌, ◌%◌, cond, eqb, ◌||◌, length, slice_index}
use Rattle.modular_word.specs.Sums.{sum_below}
use Rattle.modular_transform.proofs.plain.product_entry.Given as goal

-- the rows before i are added up
abbrev pub invariant-rows : goal.invariant-rows
invariant-rows l = l.sum ≡ sum_below l.i (λ i. sum_below (length l.xs)
    (λ j. cond (eqb (i + j) l.e || eqb (i + j) (l.e + length l.xs)) (slice_index l.xs i * slice_index l.ys j) 0)) % l.m
