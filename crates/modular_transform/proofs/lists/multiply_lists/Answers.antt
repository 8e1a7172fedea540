use Rattle.std.proofs.Common.{◌*◌, ◌%◌, ◌<◌, length, ◌∙◌, ap, arith}
use Rattle.modular_reduced.specs.Entries.{entry}
use Rattle.modular_reduced.specs.EntryLaws.{entry_at, entry_read}
use Rattle.modular_reduced.proofs.ListSteps.{written_below_next_index}
use Rattle.modular_transform.proofs.lists.multiply_lists.Goals as goal

pub entries-preserved : goal.entries-preserved
entries-preserved g c =
    let ring = g.R.Reducer in let m = ring.modulus c.args.r.now in let number = g.T.RingWord.number in
    let value = ring.value in let before = c.entries.invariant in
    let i = c.entries.i in let xs = c.entries.xs in
    let old = entry number value m c.args.xs.now in let y = entry number value m c.args.ys.now in
    let within : i < length xs = omega arith in
    let within_ys : i < length c.args.ys.now = let e = c.requires.equal in omega arith in
    let x_is = entry_at number value m xs i c.index-xs-i.result within ∙ before.done.kept i (omega arith) in
    let y_is = entry_read number value m c.args.ys.now i c.index-ys-i.result within_ys c.index-ys-i.is in
    written_below_next_index number ring.form value m xs i c.mul.result (λ k. (old k * y k) % m) old within before
    c.mul.ensures.checked
    (c.mul.ensures.value ∙ ap (λ v. (v * value m (number c.index-ys-i.result)) % m) x_is
    ∙ ap (λ v. (old i * v) % m) y_is)
