use Rattle.std.proofs.Common.{◌/◌, ◌%◌, subst, ap, ◌∙◌, bit_xor}
use Rattle.modular_prim.proofs.DigitSteps.{division_gives_quotient, remainder_is}
use Rattle.modular_word.specs.Division.{IsDivision}
use Rattle.modular_bench.proofs.Steps.{iterate_more}
use Rattle.modular_bench.specs.Steps.{mixed_division_of_two}
use Rattle.modular_bench.proofs.dividers.bench_normalized_div_rem_2by1.Goals as goal

pub steps-preserved : goal.steps-preserved
steps-preserved c =
    let y = c.args.y in
    let m = c.args.m in
    let step = mixed_division_of_two y m in
    let q = c.div_rem_2by1-q.result.0 in
    let r = c.div_rem_2by1-q.result.1 in
    let division : IsDivision c.merge.result m q r =
    subst (λ d. IsDivision c.merge.result d q r) c.new-divider.ensures c.div_rem_2by1-q.ensures in
    record {
      below = division.below;
      both =
          ap (λ v. (bit_xor v y, r)) (division_gives_quotient division)
          ∙ ap (λ v. (bit_xor (c.merge.result / m) y, v)) (remainder_is division)
          ∙ ap (λ whole. (bit_xor (whole / m) y, whole % m)) c.merge.ensures
          ∙ ap step c.steps.invariant.both ∙ iterate_more step c.steps.counter (c.args.x, y % m);
    }
