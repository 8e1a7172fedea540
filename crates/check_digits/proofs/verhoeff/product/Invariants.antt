use Rattle.std.proofs.Common.{◌≡◌, ◌-◌, ◌≤◌, length, get_or}
use Rattle.check_digits.specs.States.{state_after}
use Rattle.check_digits.proofs.VerhoeffDigits.{verhoeff_step}
use Rattle.check_digits.proofs.verhoeff.product.Given as goal

-- the product of the images so far
abbrev pub invariant-places : goal.invariant-places
invariant-places l = record {
  value : l.product ≡ state_after (verhoeff_step l.first) 0 (λ i. get_or l.word (length l.word - 1 - i) 0) l.place;
  small : l.product ≤ 9;
}
