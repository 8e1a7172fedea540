use Rattle.num_modular_c.proofs.erasure.nm_erasure_share.Goals as goal

pub returns-clause-did : goal.returns-clause-did
returns-clause-did c is fits = rw c.in-Some.ensures.0 at c.shared.ensures.did

pub returns-clause-failure : goal.returns-clause-failure
returns-clause-failure c is fits = rw c.in-Some.ensures.0 at c.shared.ensures.failure
