use Rattle.std.proofs.Common.{subst, refl}
use Rattle.std.specs.Io.KnownBytes.{Appends}
use Rattle.modular_ring.specs.declared.ring.RunEnd.TheVariants.{Done, NoInverse}
use Rattle.num_modular.proofs.ProgramLemmas.{wholes_same, value_zero, all_zeros}
use Rattle.num_modular.proofs.ProgramLemmas.{end_of_run, line_of_run, appends_nothing}
use Rattle.num_modular.proofs.modrun.run_commands.Goals as goal

pub returns-in-Done : goal.returns-in-Done
returns-in-Done g c =
    let m = g.R.Reducer.modulus c.args.reducer.now in
    let started = all_zeros _ (value_zero g.R.Reducer.form g.R.Reducer.value 64 m _
    (g.met.R.Reducer.canonical c.args.reducer.now) c.transform-registers.ensures.form) in
    let wholes = wholes_same c.args.commands.now in
    let ran = c.in-Done.ensures in
    record {
      end = Done;
      ended = end_of_run m _ _ c.args.commands.now Done started wholes ran.stops ran.done;
      answered = refl;
      output = subst (Appends (g.O.Write.contents c.args.out.now) (g.O.Write.contents c.write_residues.new.out))
          (line_of_run m _ _ c.args.commands.now Done _ started wholes ran.residues) c.in_ok-write_residues.ensures;
      error = appends_nothing (g.E.Write.contents c.args.err.now);
    }

pub returns-in_ok-writeln-in-NoInverse : goal.returns-in_ok-writeln-in-NoInverse
returns-in_ok-writeln-in-NoInverse g c =
    let m = g.R.Reducer.modulus c.args.reducer.now in
    let started = all_zeros _ (value_zero g.R.Reducer.form g.R.Reducer.value 64 m _
    (g.met.R.Reducer.canonical c.args.reducer.now) c.transform-registers.ensures.form) in
    let wholes = wholes_same c.args.commands.now in
    let ran = c.in-NoInverse.ensures in
    let end = NoInverse c.in-NoInverse.at in
    record {
      end = end;
      ended = end_of_run m _ _ c.args.commands.now end started wholes ran.stops ran.done;
      answered = refl;
      output = subst (Appends (g.O.Write.contents c.args.out.now) (g.O.Write.contents c.write_residues.new.out))
          (line_of_run m _ _ c.args.commands.now end _ started wholes ran.residues) c.in_ok-write_residues.ensures;
      error = c.in_ok-writeln-in-NoInverse.ensures.bytes;
    }
