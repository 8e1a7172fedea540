use Rattle.std.proofs.Common.{◌≡◌, ℕ, ◌≤◌, List, length, map}
use Rattle.residue_numbers.specs.Registers.{StartWith}
use Rattle.residue_numbers.proofs.Columns.{over_whole, AreRunBefore, HoldBut}
use Rattle.residue_numbers.proofs.mixed_radix.System.carry_out.Given as goal

-- as many commands as can be carried out modulo each of the moduli so far
abbrev pub invariant-moduli : goal.invariant-moduli
invariant-moduli g l = record {
  within : l.carried ≤ length l.commands;
  first : l.again ≤ l.place;
  run : (start : List ℕ) → length start ≡ length l.fn.forms → StartWith l.self.moduli.now l.inputs start
      → AreRunBefore l.self.moduli.now start (map (over_whole g.C.AsCommand.command) l.commands) l.registers l.carried
      l.again l.place;
}

-- the registers are those after the commands at the places so far too
abbrev pub invariant-again : goal.invariant-again
invariant-again g l = (start : List ℕ) → length start ≡ length l.fn.forms → StartWith l.self.moduli.now l.inputs start
    → HoldBut l.self.moduli.now start (map (over_whole g.C.AsCommand.command) l.commands) l.registers l.carried
    l.again l.place
