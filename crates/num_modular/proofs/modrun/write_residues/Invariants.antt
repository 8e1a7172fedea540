use Rattle.std.proofs.Common.{slice_index}
use Rattle.std.specs.Io.KnownBytes.{Appends}
use Rattle.modular_ring.specs.Ring.{values_of}
use Rattle.num_modular.specs.Program.{numbers_to}
use Rattle.num_modular.proofs.modrun.write_residues.Given as goal

abbrev pub invariant-rest : goal.invariant-rest
invariant-rest g l =
    Appends (g.O.Write.contents l.fn.out) (g.O.Write.contents l.out)
    (numbers_to (λ r. slice_index (values_of (λ f. f) g.R.Reducer.value (g.R.Reducer.modulus l.reducer) l.registers) r)
    l.index)
