use Rattle.std.proofs.Common.{◌≡◌, ◌+◌, ◌*◌, ◌%◌, cond, eqb, ◌||◌, length, slice_index}
use Rattle.modular_word.specs.Sums.{sum_below}
use Rattle.modular_transform.proofs.plain.row_sum.Given as goal

-- the terms before j are added up
abbrev pub invariant-terms : goal.invariant-terms
invariant-terms l = l.sum ≡ sum_below l.j
    (λ j. cond (eqb (l.i + j) l.e || eqb (l.i + j) (l.e + length l.ys)) (l.x * slice_index l.ys j) 0) % l.m
