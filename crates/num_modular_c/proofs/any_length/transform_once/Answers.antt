use Rattle.num_modular_c.proofs.any_length.transform_once.Goals as goal

pub returns : goal.returns
returns c =
    c.ntt-done.ensures.values (c.ntt-done.ensures.fits.1
    (rw c.plans_in-plans.ensures c.requires.fits, c.requires.inverse))
