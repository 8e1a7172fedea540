use Rattle.num_modular_c.proofs.correctors.nm_corrector_correct.Goals as goal

pub returns-clause-ok : goal.returns-clause-ok
returns-clause-ok c ok =
    let right = (rw c.in-Some.ensures.0 at c.corrected.ensures.ok) ok in (c.in-Some.ensures.1, right.0, right.1)
