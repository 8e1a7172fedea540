use Rattle.std.proofs.Common.{◌≡◌, ◌≤◌, get_or}
use Rattle.check_digits.specs.States.{state_after}
use Rattle.check_digits.proofs.DammDigits.{damm_step}
use Rattle.check_digits.proofs.damm.check.Given as goal

-- the product of the digits so far
abbrev pub invariant-digits : goal.invariant-digits
invariant-digits l = record {
  value : l.state ≡ state_after damm_step 0 (λ i. get_or l.word i 0) l.digit-index;
  small : l.state ≤ 9;
}
