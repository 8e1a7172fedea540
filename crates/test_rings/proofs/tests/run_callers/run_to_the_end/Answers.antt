use Rattle.test_rings.proofs.tests.run_callers.run_to_the_end.Goals as goal

pub returns : goal.returns
returns g c =
    let done =
    c.run.ensures.done.1 (λ at stop. c.stop_laws.ensures.none _ _ c.args.commands.now at c.requires.total stop) in
    rw done at c.run.ensures.values
