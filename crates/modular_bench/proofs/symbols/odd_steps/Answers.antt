use Rattle.modular_bench.proofs.Steps.{iterate_more}
use Rattle.modular_bench.specs.Steps.{symbol_step}
use Rattle.modular_bench.proofs.symbols.odd_steps.Goals as goal

pub steps-preserved : goal.steps-preserved
steps-preserved g c =
    rw (c.odd_symbol-term.ensures, c.steps.invariant)
    (iterate_more (symbol_step 0 c.args.y c.args.m) c.steps.counter c.args.x)
