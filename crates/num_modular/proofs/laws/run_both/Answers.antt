use Rattle.std.proofs.Common.{arith}
use Rattle.num_modular.proofs.SameRuns.{run_of, run_as, same_end, runs_leave_same_residues}
use Rattle.num_modular.proofs.laws.run_both.Goals as goal

pub returns-clause-one_end : goal.returns-clause-one_end
returns-clause-one_end g c =
    let left = c.run-left_end.ensures in
    let right = c.run-right_end.ensures in
    same_end _ _ _ _
    (run_of g.T.RingWord.number g.R.Reducer.value _ c.args.left_regs.now c.run-left_end.new.regs _ _
    (omega arith) left.stops left.done left.residues)
    (run_as _ _ c.requires.one_modulus c.requires.one_start c.requires.one_list
    (run_of g.U.RingWord.number g.S.Reducer.value _ c.args.right_regs.now c.run-right_end.new.regs _ _
    (omega arith) right.stops right.done right.residues))

pub returns-clause-one_result : goal.returns-clause-one_result
returns-clause-one_result g c =
    let left = c.run-left_end.ensures in
    let right = c.run-right_end.ensures in
    runs_leave_same_residues _ _ _ _
    (run_of g.T.RingWord.number g.R.Reducer.value _ c.args.left_regs.now c.run-left_end.new.regs _ _
    (omega arith) left.stops left.done left.residues)
    (run_as _ _ c.requires.one_modulus c.requires.one_start c.requires.one_list
    (run_of g.U.RingWord.number g.S.Reducer.value _ c.args.right_regs.now c.run-right_end.new.regs _ _
    (omega arith) right.stops right.done right.residues))
