use Rattle.std.proofs.Common.{arith, refl}
use Rattle.modular_plan_passes.proofs.FourColumns.{one_more_column_done, column_at, column_given, column_done}
use Rattle.modular_plan_passes.proofs.Entries.{never_beyond, number_read}
use Rattle.modular_plan_passes.proofs.Fours.{relation_of_equal_numbers}
use Rattle.modular_plan_passes.proofs.passes.columns.Goals as goal

pub four-a-requires : goal.four-a-requires
four-a-requires g c =
    column_given (column_at g.T.RingWord.number c.columns.i c.requires c.columns.invariant
    (omega arith) (omega arith) (omega arith) (omega arith) (omega arith))
    c.index-first-i.is c.index-second-i.is c.index-third-i.is c.index-fourth-i.is

pub columns-preserved : goal.columns-preserved
columns-preserved g c =
    let i = c.columns.i in
    let within = (column_at g.T.RingWord.number i c.requires c.columns.invariant
    (omega arith) (omega arith) (omega arith) (omega arith) (omega arith)).within in
    one_more_column_done _ i c.columns.invariant (column_done _ _ _ _ _ _ i _ _ _ _ within.0 within.1 within.2 within.3
    (relation_of_equal_numbers (g.S.FourStep.done c.args.step.now) (number_read _ _ i _ within.0 c.index-first-i.is)
    (number_read _ _ i _ within.1 c.index-second-i.is) (number_read _ _ i _ within.2 c.index-third-i.is)
    (number_read _ _ i _ within.3 c.index-fourth-i.is) refl refl refl refl c.four-a.ensures))

pub returns-then-is_beyond : goal.returns-then-is_beyond
returns-then-is_beyond g c =
    never_beyond g.T.RingWord.number _ c.columns.first c.args.first.now c.columns.i _ c.requires.first (omega arith)
    (omega arith) c.index-first-i.is (c.columns.invariant.kept c.columns.i (omega arith)).0
    (omega (arith, c.if-is_beyond.ensures refl, c.requires.fits))
