use Rattle.std.proofs.Common.{◌≡◌, get_or}
use Rattle.num_modular.specs.Entries.{DoneBelow}
use Rattle.num_modular_c.specs.Lists.{combination}
use Rattle.num_modular_c.proofs.word_lists.combine.Given as goal

-- the first i words are combined, and the others are there yet
abbrev pub invariant-entries : goal.invariant-entries
invariant-entries g l =
    let m = g.R.Reducer.modulus l.fn.r in
    DoneBelow (λ k v. v ≡ combination l.fn.operation m (get_or l.fn.xs k 0) (get_or l.fn.ys k 0)) l.i
    (λ k. get_or l.fn.xs k 0) (λ k. get_or l.xs k 0)
