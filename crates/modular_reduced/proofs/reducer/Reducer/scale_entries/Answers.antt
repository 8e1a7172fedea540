use Rattle.std.proofs.Common.{◌*◌, ◌%◌, ◌<◌, length, ◌∙◌, ap, arith}
use Rattle.modular_reduced.specs.Entries.{entry}
use Rattle.modular_reduced.specs.EntryLaws.{entry_at}
use Rattle.modular_reduced.proofs.ListSteps.{written_below_next_index}
use Rattle.modular_reduced.proofs.reducer.Reducer.scale_entries.Goals as goal

pub entries-preserved : goal.entries-preserved
entries-preserved g c =
    let ring = g.Self.Reducer in let m = ring.modulus c.args.self.now in let number = g.T.RingWord.number in
    let value = ring.value in let before = c.entries.invariant in
    let i = c.entries.i in let xs = c.entries.xs in
    let old = entry number value m c.args.xs.now in let factor = value m (number c.args.factor.now) in
    let within : i < length xs = omega arith in
    let x_is = entry_at number value m xs i c.index-xs-i.result within ∙ before.done.kept i (omega arith) in
    written_below_next_index number ring.form value m xs i c.mul.result (λ k. (old k * factor) % m) old within before
    c.mul.ensures.checked (c.mul.ensures.value ∙ ap (λ v. (v * factor) % m) x_is)
