use Rattle.num_modular_c.proofs.planned.nm_split.Goals as goal

pub returns-then-code-eq-NM_OK-clause-did : goal.returns-then-code-eq-NM_OK-clause-did
returns-then-code-eq-NM_OK-clause-did c split factors = (
  c.if-code-eq-NM_OK.true,
  rw (← c.new.ensures) (record { below = c.split.ensures.below; remainders = c.split.ensures.remainders }),
)
