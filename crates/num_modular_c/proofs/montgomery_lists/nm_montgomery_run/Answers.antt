use Rattle.num_modular_c.proofs.montgomery_lists.nm_montgomery_run.Goals as goal

pub returns-in-Some-clause-no_inverse : goal.returns-in-Some-clause-no_inverse
returns-in-Some-clause-no_inverse c at is = (rw c.in-Some.ensures.0 at c.carry_out.ensures.no_inverse) at
