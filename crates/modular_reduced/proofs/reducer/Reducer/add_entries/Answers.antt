use Rattle.std.proofs.Common.{◌+◌, ◌%◌, arith}
use Rattle.modular_reduced.specs.Entries.{entry}
use Rattle.modular_reduced.proofs.ListPairs.{operation_written_at_index}
use Rattle.modular_reduced.proofs.reducer.Reducer.add_entries.Goals as goal

pub entries-preserved : goal.entries-preserved
entries-preserved g c =
    let ring = g.Self.Reducer in let m = ring.modulus c.args.self.now in
    operation_written_at_index _ _ _ _ _ _ _ c.index-xs-i.result c.index-ys-i.result c.add.result (λ v w. (v + w) % m)
    (entry g.T.RingWord.number ring.value m c.args.xs.now) (omega arith) (omega arith) c.index-ys-i.is
    c.entries.invariant c.add.ensures.checked c.add.ensures.value
