use Rattle.num_modular_c.proofs.montgomery_lists.nm_montgomery_intt.Goals as goal

pub returns-in-Some-clause-did : goal.returns-in-Some-clause-did
returns-in-Some-clause-did c is = rw c.in-Some.ensures.0 at c.transformed_back.ensures.did
