use Rattle.std.proofs.Common.{pos, ◌-ℤ◌, arith}
use Rattle.modular_word.specs.Residues.{residue}
use Rattle.modular_reduced.specs.Entries.{entry}
use Rattle.modular_reduced.proofs.ListPairs.{operation_written_at_index}
use Rattle.modular_reduced.proofs.reducer.Reducer.sub_entries.Goals as goal

pub entries-preserved : goal.entries-preserved
entries-preserved g c =
    let ring = g.Self.Reducer in let m = ring.modulus c.args.self.now in
    operation_written_at_index _ _ _ _ _ _ _ c.index-xs-i.result c.index-ys-i.result c.sub.result
    (λ v w. residue m (pos v -ℤ pos w))
    (entry g.T.RingWord.number ring.value m c.args.xs.now) (omega arith) (omega arith) c.index-ys-i.is
    c.entries.invariant c.sub.ensures.checked c.sub.ensures.value
