use Rattle.std.proofs.Common.{refl}
use Rattle.num_modular_c.proofs.montgomery.nm_montgomery_transform.Goals as goal

pub returns-clause-did : goal.returns-clause-did
returns-clause-did c is =
    (refl, (rw c.in-Some.ensures.0 at c.transform.ensures.checked, rw c.in-Some.ensures.0 at c.transform.ensures.value))
