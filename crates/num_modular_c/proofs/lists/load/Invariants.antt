use Rattle.std.proofs.Common.{◌%◌, get_or}
use Rattle.num_modular.specs.Entries.{IsCheckedFormOf, DoneBelow}
use Rattle.num_modular_c.proofs.lists.load.Given as goal

-- the first i words are forms, and the others are there yet
abbrev pub invariant-entries : goal.invariant-entries
invariant-entries g l =
    let ring = g.R.Reducer in let m = ring.modulus l.fn.r in
    DoneBelow (λ k f. IsCheckedFormOf ring.form ring.value m f (get_or l.fn.xs k 0 % m)) l.i
    (λ k. get_or l.fn.xs k 0) (λ k. get_or l.xs k 0)
