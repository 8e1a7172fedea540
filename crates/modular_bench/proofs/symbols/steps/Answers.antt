use Rattle.modular_bench.proofs.Steps.{iterate_more}
use Rattle.modular_bench.specs.Steps.{symbol_step}
use Rattle.modular_bench.proofs.symbols.steps.Goals as goal

pub steps-preserved : goal.steps-preserved
steps-preserved g c =
    rw (c.number-term.ensures, c.symbol.ensures, c.steps.invariant)
    (iterate_more (symbol_step g.row.OPERATION c.args.y c.args.m) c.steps.counter c.args.x)
