use Rattle.std.proofs.Common.{◌≡◌, ◌+◌, ◌%◌, map, slice_index}
use Rattle.modular_reduced.specs.Entries.{DoneBelow}
use Rattle.modular_reduced.proofs.lanes.add_each.Given as goal

-- the first i words are replaced
abbrev pub invariant-signs : goal.invariant-signs
invariant-signs g l =
    let m = g.T.RingWord.number l.m in let old = slice_index (map g.T.RingWord.number l.fn.xs) in
    let y = slice_index (map g.T.RingWord.number l.fn.ys) in
    DoneBelow (λ k n. n ≡ (old k + y k) % m) l.i old (slice_index (map g.T.RingWord.number l.xs))

abbrev pub invariant-words : goal.invariant-words
invariant-words g l =
    let m = g.T.RingWord.number l.m in let old = slice_index (map g.T.RingWord.number l.fn.xs) in
    let y = slice_index (map g.T.RingWord.number l.fn.ys) in
    DoneBelow (λ k n. n ≡ (old k + y k) % m) l.i old (slice_index (map g.T.RingWord.number l.xs))
