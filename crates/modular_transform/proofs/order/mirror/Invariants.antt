use Rattle.std.proofs.Common.{length, get_or}
use Rattle.modular_transform.specs.Orders.{mirrored}
use Rattle.modular_transform.proofs.Reordering.{ReorderedSoFar}
use Rattle.modular_transform.proofs.order.mirror.Given as goal

abbrev pub invariant-places : goal.invariant-places
invariant-places g l = (d : g.row.T.Denot) → ReorderedSoFar (length l.fn.entries) l.place
    (mirrored (length l.fn.entries)) (λ i. get_or l.fn.entries i d) (λ i. get_or l.entries i d)
