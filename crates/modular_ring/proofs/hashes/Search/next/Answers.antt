use Rattle.std.proofs.Common.{ap, ◌∙◌, sym, ◌+◌, ℕ, length, slice_range, arith, ◌^◌, ◌%◌, List}
use Rattle.modular_reduced.specs.Integers.{residue_of}
use Rattle.modular_folds.specs.Mersenne.{mersenne}
use Rattle.modular_ring.proofs.Windows.{window_moves, window_length}
use Rattle.modular_ring.proofs.hashes.Search.next.Goals as goal

pub returns : goal.returns
returns c =
    let it = c.args.self.now in
    let text : List ℕ = it.text.now in
    let at = c.args.at in
    let n = length it.pattern.now in
    c.roll.ensures.hash (slice_range text at (at + n)) (slice_range text (at + 1) (at + 1 + n))
    (window_moves n at text c.requires.within) c.requires.hashed
    (it.raised ∙ ap (λ k. residue_of it.base ^ k % mersenne 61 1) (sym (window_length n at text (omega arith))))
