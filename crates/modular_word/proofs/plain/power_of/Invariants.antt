-- After some factors, their product modulo m.
use Rattle.std.proofs.Common.{◌≡◌, ◌%◌, ◌^◌}
use Rattle.modular_word.proofs.plain.power_of.Given as goal

abbrev pub invariant-loop : goal.invariant-loop
invariant-loop l = l.power ≡ l.base ^ l.counter % l.m
