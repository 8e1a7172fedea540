use Rattle.std.proofs.Common.{◌≡◌, ◌∙◌, arith, map, slice_index}
use Rattle.modular_reduced.specs.Entries.{entry}
use Rattle.modular_reduced.specs.EntryLaws.{entry_read, done_more}
use Rattle.modular_transform.proofs.lists.unload_forms.Goals as goal

pub entries-preserved : goal.entries-preserved
entries-preserved g c =
    let ring = g.R.Reducer in let m = ring.modulus c.args.r.now in let number = g.T.RingWord.number in
    done_more number (λ k f. f) 0 c.entries.words c.entries.i c.residue.result
    (λ k v. v ≡ entry number ring.value m c.args.forms.now k) (slice_index (map number c.args.words.now))
    (omega arith) c.entries.invariant
    (c.residue.ensures.value ∙ entry_read number ring.value m c.args.forms.now c.entries.i c.index-forms-i.result
    (omega (arith, c.requires.within)) c.index-forms-i.is)
