use Rattle.std.proofs.Common.{◌≤◌, ◌-◌, length, true}
use Rattle.modular_ring.specs.RunSteps.{GoesOn}
use Rattle.modular_ring.proofs.ring.carry_out_all.Given as goal

-- the commands before `at` were carried out
abbrev pub invariant-fours : goal.invariant-fours
invariant-fours g l =
    GoesOn g.R.Reducer g.T.RingWord.number g.C.AsCommand.command l.r l.commands l.fn.regs l.regs l.last l.fn.at l.at
    l.at true
    × (l.at ≤ length l.commands)

abbrev pub decreases-fours : goal.decreases-fours
decreases-fours g l = length l.commands - l.at

abbrev pub invariant-commands : goal.invariant-commands
invariant-commands g l =
    GoesOn g.R.Reducer g.T.RingWord.number g.C.AsCommand.command l.r l.commands l.fn.regs l.regs l.last l.fn.at l.at
    l.at true
    × (l.at ≤ length l.commands)

abbrev pub decreases-commands : goal.decreases-commands
decreases-commands g l = length l.commands - l.at
