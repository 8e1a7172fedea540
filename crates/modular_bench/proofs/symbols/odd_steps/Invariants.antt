use Rattle.std.proofs.Common.{◌≡◌}
use Rattle.std.specs.Fn.{iterate}
use Rattle.modular_bench.specs.Steps.{symbol_step}
use Rattle.modular_bench.proofs.symbols.odd_steps.Given as goal

abbrev pub invariant-steps : goal.invariant-steps
invariant-steps g l = l.x ≡ iterate (symbol_step 0 l.y l.m) l.counter l.fn.x
