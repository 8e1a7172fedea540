use Rattle.modular_prim.proofs.DigitSteps.{division_gives_quotient, remainder_is}
use Rattle.modular_bench.proofs.Steps.{iterate_more}
use Rattle.modular_bench.specs.Steps.{mixed_division}
use Rattle.modular_bench.proofs.dividers.bench_premulinv1by1_div_rem.Goals as goal

pub steps-preserved : goal.steps-preserved
steps-preserved c =
    rw (division_gives_quotient c.div_rem-q.ensures, remainder_is c.div_rem-q.ensures, c.steps.invariant)
    (iterate_more (mixed_division c.args.y c.args.m) c.steps.counter c.args.x)
