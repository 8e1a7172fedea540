use Rattle.std.proofs.Common.{arith}
use Rattle.lattice_rings.proofs.Blocks.{AreValues-from_split}
use Rattle.lattice_rings.proofs.Dsa.{IsDsaTransform-from_values}
use Rattle.lattice_rings.proofs.ml_dsa.Ring.ntt.Goals as goal

pub split-requires-clause-blocks : goal.split-requires-clause-blocks
split-requires-clause-blocks c =
    let table = c.plan.ensures.table in
    record { some = omega arith; count = (8, omega arith); whole = omega arith; within = omega (arith, table) }

pub returns-clause-values : goal.returns-clause-values
returns-clause-values c =
    IsDsaTransform-from_values _ _
    (AreValues-from_split 1 c.args.w.now c.split.new.xs (search arith) c.split.ensures.remainders)
