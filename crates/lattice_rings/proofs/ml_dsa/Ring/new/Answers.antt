use Rattle.std.proofs.Common.{refl}
use Rattle.lattice_rings.proofs.Dsa.{dsa_zeta_suits}
use Rattle.lattice_rings.proofs.ml_dsa.Ring.new.Goals as goal

pub fill_table-requires-clause-suits : goal.fill_table-requires-clause-suits
fill_table-requires-clause-suits c = rw c.new-modulus.ensures dsa_zeta_suits

pub invariant_of-result-clause-factors : goal.invariant_of-result-clause-factors
invariant_of-result-clause-factors c = rw c.new-modulus.ensures at c.fill_table.ensures.factors

pub invariant_of-result-clause-powers : goal.invariant_of-result-clause-powers
invariant_of-result-clause-powers c =
    λ k l. rw c.new-modulus.ensures at (c.fill_table.ensures.twiddles 9 refl).entry k l
