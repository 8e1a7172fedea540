use Rattle.std.proofs.Common.{◌≡◌, ◌%◌, ◌-◌, ◌≤◌}
use Rattle.modular_word.proofs.Lifting.{InverseTo}
use Rattle.modular_monty.proofs.computed.negated_inverse.Given as goal

abbrev pub invariant-lift : goal.invariant-lift
invariant-lift l = record {
  lifted : l.m % 2 ≡ 1 → InverseTo 64 l.m l.inverse l.bits;
  some : 3 ≤ l.bits;
}

abbrev pub decreases-lift : goal.decreases-lift
decreases-lift l = l.width - l.bits
