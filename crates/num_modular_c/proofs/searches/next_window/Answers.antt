use Rattle.std.proofs.Common.{ℕ, ◌+◌, ◌%◌, ◌^◌, ◌<◌, List, length, slice_range, arith, ap, sym, ◌∙◌}
use Rattle.modular_ring.proofs.Windows.{window_moves, window_length}
use Rattle.num_modular.specs.Integers.{residue_of}
use Rattle.num_modular.specs.Mersenne.{mersenne}
use Rattle.num_modular_c.proofs.searches.next_window.Goals as goal

pub returns-then-size-text : goal.returns-then-size-text
returns-then-size-text c within =
    let n : ℕ = c.args.size in let at : ℕ = c.args.at in let text : List ℕ = c.args.text.now in
    let inside : at + n < length text = omega (arith, within) in
    c.roll.ensures.hash (slice_range text at (at + n)) (slice_range text (at + 1) (at + 1 + n))
    (window_moves n at text inside) (c.requires.window (omega (arith, inside)))
    (c.requires.power ∙ ap (λ k. residue_of c.args.base ^ k % mersenne 61 1)
    (sym (window_length n at text (omega (arith, inside)))))
