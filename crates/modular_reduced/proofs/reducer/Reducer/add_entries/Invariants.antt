use Rattle.std.proofs.Common.{◌+◌, ◌%◌}
use Rattle.modular_reduced.specs.Entries.{entry}
use Rattle.modular_reduced.proofs.ListSteps.{WrittenBelow}
use Rattle.modular_reduced.proofs.reducer.Reducer.add_entries.Given as goal

-- the first i entries are done
abbrev pub invariant-entries : goal.invariant-entries
invariant-entries g l =
    let ring = g.Self.Reducer in let m = ring.modulus l.self in let number = g.T.RingWord.number in
    let old = entry number ring.value m l.fn.xs in let y = entry number ring.value m l.fn.ys in
    WrittenBelow number ring.form ring.value m (λ k. (old k + y k) % m) l.i old l.xs
