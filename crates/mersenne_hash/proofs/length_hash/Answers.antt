use Rattle.std.proofs.Common.{slice_index, arith}
use Rattle.mersenne_hash.proofs.Concatenations.{horner_step_is_residue, one_coefficient}
use Rattle.mersenne_hash.proofs.length_hash.Goals as goal

pub bytes-init : goal.bytes-init
bytes-init c = search (arith, one_coefficient)

pub bytes-preserved : goal.bytes-preserved
bytes-preserved c = grind (arith, horner_step_is_residue, slice_index) steps 700000
