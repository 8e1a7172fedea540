use Rattle.modular_prim.proofs.DifferenceSteps.{inversion_of_residue}
use Rattle.modular_prim.proofs.inverse.inverse_by_subtraction.Goals as goal

pub returns : goal.returns
returns g c = inversion_of_residue _ _ _ _ _ c.reduced.ensures.value c.inverse_below.ensures
