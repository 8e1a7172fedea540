use Rattle.std.proofs.Common.{◌≡◌, ◌%◌, ◌<◌}
use Rattle.std.specs.Fn.{iterate}
use Rattle.modular_bench.specs.Steps.{mixed_division_of_two}
use Rattle.modular_bench.proofs.dividers.bench_normalized_div_rem_2by1.Given as goal

abbrev pub invariant-steps : goal.invariant-steps
invariant-steps l = record {
  below : l.high < l.m;
  both : (l.low, l.high) ≡ iterate (mixed_division_of_two l.y l.m) l.counter (l.x, l.y % l.m);
}
