use Rattle.std.proofs.Common.{rules, ◌≡◌, ◌∷◌, ◌++◌, ◌+◌, [], take, sym, subst}
use Rattle.num_modular.specs.Program.{AreCommands}
use Rattle.num_modular.proofs.ProgramLemmas.{unreadable_at, more_read}
use Rattle.num_modular.proofs.modrun.read_commands.Goals as goal

pub words-preserved : goal.words-preserved
words-preserved c =
    let pushed : c.push.new.self.items ≡ c.words.commands.items ++ (c.in-Some.read ∷ []) = search rules in
    subst (AreCommands (take (c.words.word-index + 1) c.args.words.now)) (sym pushed)
    (more_read c.args.words.now c.words.word-index _ c.words.commands.items c.in-Some.read c.words-test.true
    c.words.invariant c.in-Some.ensures)

pub returns-in_default : goal.returns-in_default
returns-in_default c = unreadable_at c.args.words.now c.words.word-index _ c.words-test.true c.in_default.ensures
