use Rattle.std.proofs.Common.{arith}
use Rattle.residue_numbers.proofs.Columns.{over_whole, IsEnd-from_carried}
use Rattle.residue_numbers.proofs.mixed_radix.System.run.Goals as goal

pub returns-clause-stops : goal.returns-clause-stops
returns-clause-stops g c start entries with =
    let done = c.carry_out-carried.ensures in
    (IsEnd-from_carried (over_whole g.C.AsCommand.command) c.args.commands.now _ start _ _
    (done.run start entries with).carried done.most c.end_after.ensures.all c.end_after.ensures.part).stops

pub returns-clause-done : goal.returns-clause-done
returns-clause-done g c start entries with =
    let done = c.carry_out-carried.ensures in
    (IsEnd-from_carried (over_whole g.C.AsCommand.command) c.args.commands.now _ start _ _
    (done.run start entries with).carried done.most c.end_after.ensures.all c.end_after.ensures.part).never

pub returns-clause-residues : goal.returns-clause-residues
returns-clause-residues g c start entries with r h = search (arith, IsEnd-from_carried)
