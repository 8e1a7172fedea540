use Rattle.modular_plan_passes.specs.Plans.{numbers}
use Rattle.modular_plan_passes.specs.Splits.{ColumnsDone}
use Rattle.modular_plan_passes.proofs.passes.columns.Given as goal

-- the first i columns are done
abbrev pub invariant-columns : goal.invariant-columns
invariant-columns g l =
    let at = numbers g.T.RingWord.number in
    ColumnsDone (g.S.FourStep.done l.step) l.i (at l.fn.first) (at l.fn.second) (at l.fn.third) (at l.fn.fourth)
    (at l.first) (at l.second) (at l.third) (at l.fourth)
