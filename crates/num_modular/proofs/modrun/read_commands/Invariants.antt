use Rattle.std.proofs.Common.{take}
use Rattle.num_modular.specs.Program.{AreCommands}
use Rattle.num_modular.proofs.modrun.read_commands.Given as goal

abbrev pub invariant-words : goal.invariant-words
invariant-words l = AreCommands (take l.word-index l.words) l.commands.items
