use Rattle.std.proofs.Common.{◌≡◌, ◌*◌, ◌%◌, get_or}
use Rattle.num_modular.specs.Sums.{sum_below}
use Rattle.check_digits.proofs.Code.sum.Given as goal

-- the weighted sum of the symbols so far
abbrev pub invariant-places : goal.invariant-places
invariant-places l = l.sum ≡ sum_below l.place (λ i. get_or l.weights i 0 * get_or l.word i 0) % l.m
