use Rattle.std.proofs.Common.{refl}
use Rattle.std.proofs.lemmas.Bool.{false≢true}
use Rattle.num_modular_c.proofs.polynomials.nm_polynomial_multiply_negacyclic.Goals as goal

pub returns-then-multiply_negacyclic_once-clause-bad_argument
    : goal.returns-then-multiply_negacyclic_once-clause-bad_argument
returns-then-multiply_negacyclic_once-clause-bad_argument c none =
    let is = c.if-multiply_negacyclic_once.ensures.room.0 refl in
    absurd (none is.0 is.1)

pub returns-else-multiply_negacyclic_once-clause-bad_argument
    : goal.returns-else-multiply_negacyclic_once-clause-bad_argument
returns-else-multiply_negacyclic_once-clause-bad_argument c none =
    let same = c.if-multiply_negacyclic_once.ensures.unchanged false≢true in
    (((refl, same.0), same.1), same.2)
