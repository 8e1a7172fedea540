use Rattle.std.proofs.Common.{◌≡◌, map, slice_index}
use Rattle.modular_reduced.specs.Entries.{entry, DoneBelow}
use Rattle.modular_transform.proofs.lists.unload_forms.Given as goal

-- the first i values are there
abbrev pub invariant-entries : goal.invariant-entries
invariant-entries g l =
    let ring = g.R.Reducer in let m = ring.modulus l.fn.r in let number = g.T.RingWord.number in
    DoneBelow (λ k v. v ≡ entry number ring.value m l.fn.forms k) l.i (slice_index (map number l.fn.words))
    (slice_index (map number l.words))
