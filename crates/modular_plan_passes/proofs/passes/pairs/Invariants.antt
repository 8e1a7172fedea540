use Rattle.std.proofs.Common.{◌<◌, All}
use Rattle.modular_plan_passes.specs.Plans.{numbers}
use Rattle.modular_plan_passes.specs.Steps.{BlockDone}
use Rattle.modular_plan_passes.proofs.passes.pairs.Given as goal

-- the first i pairs are done
abbrev pub invariant-pairs : goal.invariant-pairs
invariant-pairs g l =
    let number = g.T.RingWord.number in
    record {
      entries : All (λ x. number x < g.S.PairStep.bound l.step) l.xs;
      done : BlockDone (g.S.PairStep.done l.step) l.first l.half l.i (numbers number l.fn.xs) (numbers number l.xs);
    }
