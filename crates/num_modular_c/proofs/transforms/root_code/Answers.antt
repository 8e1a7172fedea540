use Rattle.std.proofs.Common.{refl}
use Rattle.std.proofs.lemmas.Bool.{false≢true}
use Rattle.num_modular_c.proofs.transforms.root_code.Goals as goal

pub returns-then-root_fits-clause-no_root : goal.returns-then-root_fits-clause-no_root
returns-then-root_fits-clause-no_root g c none =
    absurd (none (rw c.transform.ensures.value at (c.if-root_fits.ensures.0 refl)))

pub returns-then-root_fits-clause-suits : goal.returns-then-root_fits-clause-suits
returns-then-root_fits-clause-suits g c ok = rw c.transform.ensures.value at (c.if-root_fits.ensures.0 refl)

pub returns-else-root_fits-clause-fits : goal.returns-else-root_fits-clause-fits
returns-else-root_fits-clause-fits g c suits =
    absurd (false≢true (c.if-root_fits.ensures.1 (rw c.transform.ensures.value suits)))
