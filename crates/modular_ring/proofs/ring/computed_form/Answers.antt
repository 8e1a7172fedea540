use Rattle.std.proofs.Common.{arith}
use Rattle.modular_ring.proofs.RunLemmas.{value_of, inverse_form}
use Rattle.modular_ring.proofs.ring.computed_form.Goals as goal

pub returns-in-Inv : goal.returns-in-Inv
returns-in-Inv g c v holds = search (arith, value_of, inverse_form)
