use Rattle.std.proofs.Common.{arith, ◌<◌, subst, sym, ◌≡◌, ◌∙◌, ◌%◌, ap, map, slice_index}
use Rattle.modular_reduced.specs.EntryLaws.{entry_past, entry_read, held_entry, hold_more}
use Rattle.modular_transform.proofs.lists.load_forms.Goals as goal
use Rattle.modular_transform.proofs.lists.load_forms.Goals.{then-i-words, else-i-words}

pub returns-clause-values : goal.returns-clause-values
returns-clause-values g c = search (arith, held_entry)

pub entries-preserved : goal.entries-preserved
entries-preserved g c =
    let ring = g.R.Reducer in let m = ring.modulus c.args.r.now in let number = g.T.RingWord.number in
    let words = c.args.words.now in
    let i = c.entries.i in
    let within = subst (λ n. i < n) (sym c.entries.auto.forms) c.entries-test.true in
    -- a word is its own value
    let is : number c.if-i-words.word ≡ slice_index (map number words) i = elim c.if-i-words.branch [
      | then-i-words w ↦ ap number w.word-is ∙ entry_read number (λ m v. v) m words i w.index-words-i.result
          w.if-i-words.true w.index-words-i.is
      | else-i-words w ↦ ap number w.word-is ∙ w.zero-word.ensures
          ∙ sym (entry_past number (λ m v. v) m words i w.if-i-words.false)
    ] in
    hold_more _ _ _ _ _ _ _ _ within c.entries.invariant c.transform.ensures.checked (c.transform.ensures.value
    ∙ ap (λ v. v % m) is)
