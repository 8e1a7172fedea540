use Rattle.std.proofs.Common.{◌≡◌, ◌<◌, ap, ◌∙◌, arith}
use Rattle.modular_bench.proofs.Steps.{iterate_more, product_chosen, quotient_chosen}
use Rattle.modular_bench.specs.Steps.{quotient_or_product}
use Rattle.modular_bench.proofs.dividers.bench_preinv_div_exact.Goals as goal
use Rattle.modular_bench.proofs.dividers.bench_preinv_div_exact.Goals.{in-Some, in-None}

pub steps-preserved : goal.steps-preserved
steps-preserved c =
    let y = c.args.y in
    let m = c.args.m in
    let step = quotient_or_product y m in
    let some : 0 < m = omega (arith, c.requires) in
    let made : c.match-div_exact.x ≡ step c.steps.x =
    elim c.match-div_exact.branch [
      | in-Some w ↦ w.x-is ∙ quotient_chosen y m c.steps.x _ some w.in-Some.ensures
      | in-None w ↦ w.x-is ∙ product_chosen y m c.steps.x w.in-None.ensures
    ] in
    made ∙ ap step c.steps.invariant ∙ iterate_more step c.steps.counter c.args.x
