use Rattle.std.proofs.Common.{◌≡◌}
use Rattle.std.specs.Fn.{iterate}
use Rattle.modular_bench.specs.Steps.{mixed_division}
use Rattle.modular_bench.proofs.dividers.bench_premulinv1by1_div_rem.Given as goal

abbrev pub invariant-steps : goal.invariant-steps
invariant-steps l = l.x ≡ iterate (mixed_division l.y l.m) l.counter l.fn.x
