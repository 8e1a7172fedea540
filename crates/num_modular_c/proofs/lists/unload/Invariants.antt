use Rattle.std.proofs.Common.{◌≡◌, get_or}
use Rattle.num_modular.specs.Entries.{DoneBelow}
use Rattle.num_modular_c.proofs.lists.unload.Given as goal

-- the first i values are there, and the other forms yet
abbrev pub invariant-entries : goal.invariant-entries
invariant-entries g l =
    let ring = g.R.Reducer in let m = ring.modulus l.fn.r in
    DoneBelow (λ k v. v ≡ ring.value m (get_or l.fn.xs k 0)) l.i (λ k. get_or l.fn.xs k 0) (λ k. get_or l.xs k 0)
