use Rattle.lattice_rings.proofs.Remainders.{ProductsBelow}
use Rattle.lattice_rings.proofs.ml_kem.Ring.multiply.Given as goal

abbrev pub invariant-remainders : goal.invariant-remainders
invariant-remainders l = ProductsBelow l.i l.initial.xs l.ys l.xs
