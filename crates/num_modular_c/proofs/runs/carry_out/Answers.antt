use Rattle.std.proofs.Common.{◌≡◌, ◌∙◌, ◌%◌, map, refl, arith}
use Rattle.std.proofs.lemmas.List.{length-map}
use Rattle.num_modular.specs.Ring.{values_of}
use Rattle.num_modular_c.specs.Commands.{ring_command_of}
use Rattle.num_modular_c.proofs.InPlace.{values_of_loaded}
use Rattle.num_modular_c.proofs.Wholes.{word_wholes_same}
use Rattle.num_modular_c.proofs.runs.carry_out.Goals as goal
use Rattle.num_modular_c.proofs.runs.carry_out.Goals.{After-load}

-- the values that are loaded
loaded_residues : (g : _) (c : After-load g)
    → values_of (λ f. f) g.R.Reducer.value (g.R.Reducer.modulus c.args.r.now) c.load.new.xs
    ≡ map (λ x. x % g.R.Reducer.modulus c.args.r.now) c.args.registers.now
loaded_residues g c =
    values_of_loaded _ g.R.Reducer.value c.args.registers.now c.load.new.xs (omega arith) c.load.ensures.values

pub returns-in-Done-clause-did : goal.returns-in-Done-clause-did
returns-in-Done-clause-did g c all none =
    let start = loaded_residues g (goal.at.returns-in-Done-clause-did g c).After-load in (
      refl,
      record {
        carried_out = refl;
        values = λ n l. c.unload.ensures n (omega arith) ∙ (rw (
          start,
          word_wholes_same c.args.commands.now,
          c.in-Done.is,
          length-map c.args.commands.now ring_command_of,
        ) at c.run-end.ensures.residues n (omega arith));
      },
    )

pub returns-in-Done-clause-no_inverse : goal.returns-in-Done-clause-no_inverse
returns-in-Done-clause-no_inverse g c stop all is =
    let start = loaded_residues g (goal.at.returns-in-Done-clause-no_inverse g c).After-load in
    absurd (c.run-end.ensures.done.0 c.in-Done.is stop (rw (start, word_wholes_same c.args.commands.now) is))

pub returns-in-NoInverse-clause-did : goal.returns-in-NoInverse-clause-did
returns-in-NoInverse-clause-did g c all none =
    let start = loaded_residues g (goal.at.returns-in-NoInverse-clause-did g c).After-load in
    absurd (none c.in-NoInverse.at (rw (start, word_wholes_same c.args.commands.now)
    at (c.run-end.ensures.stops c.in-NoInverse.at).0 c.in-NoInverse.is))

pub returns-in-NoInverse-clause-no_inverse : goal.returns-in-NoInverse-clause-no_inverse
returns-in-NoInverse-clause-no_inverse g c stop all is =
    let start = loaded_residues g (goal.at.returns-in-NoInverse-clause-no_inverse g c).After-load in
    let told = (c.run-end.ensures.stops stop).1 (rw (start, word_wholes_same c.args.commands.now) is) in
    let here = c.in-NoInverse.is in
    let same : c.in-NoInverse.at ≡ stop = cc in (
      refl,
      record {
        carried_out = same;
        values = λ n l. c.unload.ensures n (omega arith)
            ∙ (rw (start, word_wholes_same c.args.commands.now, told) at c.run-end.ensures.residues n (omega arith));
      },
    )
