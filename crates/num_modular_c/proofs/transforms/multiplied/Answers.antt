use Rattle.std.proofs.Common.{refl}
use Rattle.std.proofs.lemmas.Bool.{false≢true}
use Rattle.num_modular_c.proofs.transforms.multiplied.Goals as goal

pub returns-then-not-root_fits-clause-did : goal.returns-then-not-root_fits-clause-did
returns-then-not-root_fits-clause-did g c equal suits inverse =
    absurd (false≢true (c.if-not-root_fits.ensures.1 (rw c.transform.ensures.value suits)))

pub returns-then-not-root_fits-clause-no_inverse : goal.returns-then-not-root_fits-clause-no_inverse
returns-then-not-root_fits-clause-no_inverse g c equal suits none =
    absurd (false≢true (c.if-not-root_fits.ensures.1 (rw c.transform.ensures.value suits)))

pub returns-then-not-has_inverse-clause-did : goal.returns-then-not-has_inverse-clause-did
returns-then-not-has_inverse-clause-did g c equal suits inverse =
    absurd (false≢true (c.if-not-has_inverse.ensures.1 inverse))

pub returns-then-not-has_inverse-clause-no_root : goal.returns-then-not-has_inverse-clause-no_root
returns-then-not-has_inverse-clause-no_root g c equal none =
    absurd (none (rw c.transform.ensures.value at (c.if-not-root_fits.ensures.0 refl)))

pub returns-clause-no_root : goal.returns-clause-no_root
returns-clause-no_root g c equal none =
    absurd (none (rw c.transform.ensures.value at (c.if-not-root_fits.ensures.0 refl)))
