use Rattle.modular_bench.proofs.lattices.bench_ml_kem.Goals as goal
use Rattle.modular_bench.proofs.lattices.bench_ml_kem.Goals.{in-0, in-1, in-2, in-3, in_default}

pub turns-preserved : goal.turns-preserved
turns-preserved c =
    elim c.match-operation.branch [
      | in-0 w ↦ rw w.xs-is c.turns.invariant
      | in-1 w ↦ rw w.xs-is w.ntt.ensures.residues
      | in-2 w ↦ rw w.xs-is w.inverse.ensures.residues
      | in-3 w ↦ rw w.xs-is w.multiply.ensures.residues
      | in_default w ↦ rw w.xs-is w.product.ensures.residues
    ]
