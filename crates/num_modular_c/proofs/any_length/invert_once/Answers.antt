use Rattle.num_modular_c.proofs.any_length.invert_once.Goals as goal

pub returns-clause-values : goal.returns-clause-values
returns-clause-values c =
    c.intt-done.ensures.values (c.intt-done.ensures.fits.1 (
      rw c.plans_in-plans.ensures c.requires.fits,
      c.requires.inverse,
      c.requires.of_length,
    ))

pub returns-clause-undone : goal.returns-clause-undone
returns-clause-undone c =
    c.intt-done.ensures.undone (c.intt-done.ensures.fits.1 (
      rw c.plans_in-plans.ensures c.requires.fits,
      c.requires.inverse,
      c.requires.of_length,
    ))
