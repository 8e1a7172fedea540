use Rattle.std.proofs.Common.{◌%◌, map, slice_index}
use Rattle.modular_reduced.specs.Entries.{HoldBelow}
use Rattle.modular_transform.proofs.lists.load_forms.Given as goal

-- the first i forms are loaded
abbrev pub invariant-entries : goal.invariant-entries
invariant-entries g l =
    let ring = g.R.Reducer in let m = ring.modulus l.fn.r in let number = g.T.RingWord.number in
    HoldBelow number ring.form ring.value m l.forms (λ k. slice_index (map number l.fn.words) k % m) l.i
