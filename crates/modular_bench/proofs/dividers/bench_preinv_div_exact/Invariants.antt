use Rattle.std.proofs.Common.{◌≡◌}
use Rattle.std.specs.Fn.{iterate}
use Rattle.modular_bench.specs.Steps.{quotient_or_product}
use Rattle.modular_bench.proofs.dividers.bench_preinv_div_exact.Given as goal

abbrev pub invariant-steps : goal.invariant-steps
invariant-steps l = l.x ≡ iterate (quotient_or_product l.y l.m) l.counter l.fn.x
