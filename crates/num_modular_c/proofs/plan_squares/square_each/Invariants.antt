use Rattle.std.proofs.Common.{◌≡◌, ◌*◌, ◌%◌, get_or}
use Rattle.num_modular.specs.Entries.{DoneBelow}
use Rattle.num_modular_c.proofs.plan_squares.square_each.Given as goal

-- the first i words are squares, and the others are there yet
abbrev pub invariant-words : goal.invariant-words
invariant-words l =
    DoneBelow (λ k s. s ≡ (get_or l.fn.xs k 0 * get_or l.fn.xs k 0) % l.m.modulus) l.i (λ k. get_or l.fn.xs k 0)
    (λ k. get_or l.xs k 0)
