use Rattle.std.proofs.Common.{◌≡◌, ◌-◌, ◌%◌, get_or}
use Rattle.num_modular.specs.Sums.{sum_below}
use Rattle.check_digits.specs.Luhn.{luhn_value}
use Rattle.check_digits.proofs.luhn.sum.Given as goal

-- the sum of what the digits so far count
abbrev pub invariant-places : goal.invariant-places
invariant-places l = l.sum ≡ sum_below l.index (λ i. luhn_value (l.places - 1 - i) (get_or l.word i 0)) % 10
